-- "A tally, lent for change, counts frames with status 0, frames with another status, and frames without reply bytes. A count at 2^64 - 1 stays there."
use Rattle.std.specs.Prelude.{ℕ, Bool, not, cond, eqb}
use Rattle.numbers.specs.Growth.{next}
use Rattle.serving.specs.Serve.{Served, Refused, Done}
use Rattle.tally.specs.declared.Tally.{Tally}

-- one more where the test holds, but never past 2^64 - 1
abbrev pub more_if : Bool → ℕ → ℕ
more_if t n = cond t (next n) n

-- only a served frame counts
unfoldable pub counted_of : Tally → Served → Tally
counted_of t (Done status used len) = record {
  served = more_if (eqb status 0) t.served;
  refused = more_if (not (eqb status 0)) t.refused;
  silent = more_if (eqb len 0) t.silent;
}
counted_of t (Refused n need) = t
