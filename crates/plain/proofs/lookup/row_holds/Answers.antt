use mathlib.Core.Bool.{◌&&◌, not}
use mathlib.Core.List.{List}
use mathlib.Core.Path.{ap, ◌∙◌}
use lib.Dec.{eqb}
use Prim.Native.Nat.{ℕ}
use Rattle.octets.specs.Compare.{same}
use Rattle.plain.proofs.Rows.{row-holds}
use Rattle.plain.proofs.lookup.row_holds.Goals as goal

pub returns : goal.returns
returns c =
    let a = c.args in
    (λ i. not (eqb (c.be16.ensures i) 0) && (c.same.ensures ∙ ap (λ (l : List ℕ). same l a.key.now) c.key.ensures) i)
    ∙ row-holds a.r.now a.key.now
