use Rattle.std.proofs.Common.{ℕ, ◌+◌, ◌%◌, ◌^◌, ap, ◌∙◌}
use Rattle.fingerprint.specs.Fingerprint.{mixed}
use Rattle.fingerprint.proofs.Mixing.{round}
use Rattle.fingerprint.proofs.mix.Goals as goal

pub returns : goal.returns
unfolding mixed
returns c = let a = c.args in
    ap (λ (t : ℕ). (t + a.w) % 2 ^ 64) (c.rotate_left.ensures ∙ round a.p c.ranges.p.fits)
