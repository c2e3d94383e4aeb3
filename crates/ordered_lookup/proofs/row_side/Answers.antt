use Rattle.keys.specs.Keys.{side_of}
use mathlib.Core.List.{List}
use Prim.Native.Nat.{ℕ}
use Rattle.ordered_lookup.proofs.HalvingLaws.{free-side, used-side}
use mathlib.Core.Path.{sym, ap, ◌∙◌}
use Rattle.ordered_lookup.proofs.row_side.Goals as goal

pub returns-then-be16-eq0 : goal.returns-then-be16-eq0
returns-then-be16-eq0 c =
    let a = c.args in
    sym (free-side a.r.now a.key.now (sym c.be16.ensures ∙ c.if-be16-eq0.true))

pub returns : goal.returns
returns c =
    let a = c.args in
    c.compare.ensures ∙ ap (λ (l : List ℕ). side_of l a.key.now) c.key.ensures
    ∙ used-side a.r.now a.key.now (λ z. c.if-be16-eq0.false (c.be16.ensures ∙ z))
