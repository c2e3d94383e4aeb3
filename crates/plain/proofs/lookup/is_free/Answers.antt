use mathlib.Core.Path.{sym, ap, ◌∙◌}
use lib.Dec.{eqb}
use Prim.Native.Nat.{ℕ}
use Rattle.plain.proofs.Rows.{is_free-row}
use Rattle.plain.proofs.lookup.is_free.Goals as goal

pub returns : goal.returns
returns c = ap (λ (n : ℕ). eqb n 0) c.be16.ensures ∙ sym (is_free-row c.args.r.now)
