use native.Mathlib.Omega.{arith}
use mathlib.Core.Path.{◌≡◌, ap, ◌∙◌}
use Prim.Native.Nat.{ℕ, ◌-◌}
use lib.Dec.{eqb}
use lib.ListN.{length}
use lib.Seq.{take_all}
use Rattle.std.specs.Prelude.{Some, slice_get}
use Rattle.ordered_lookup.proofs.HalvingLaws.{last-some}
use Rattle.ordered_lookup.proofs.last_free.Goals as goal

pub returns-in-Some : goal.returns-in-Some
returns-in-Some c =
    let rs = c.args.rows.now in
    let last : Some c.in-Some.row.now ≡ slice_get rs (length rs - 1) = grind (arith, take_all, c.in-Some.ensures.value) in
    ap (λ (k : ℕ). eqb k 0) c.be16.ensures ∙ last-some rs c.in-Some.row.now last
