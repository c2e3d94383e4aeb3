-- The law of buckets: there are 1,024.
use Rattle.std.proofs.Common.{ℕ, ◌*◌, ◌/◌, ◌^◌, ◌<◌, mod-lt, arith}
use Rattle.fingerprint.specs.Fingerprint.{bucket_of}

pub bucket-lt : (p : ℕ) → bucket_of p < 1024
unfolding bucket_of
bucket-lt p = mod-lt (p * 2654435761 / 2 ^ 22) (omega arith)
