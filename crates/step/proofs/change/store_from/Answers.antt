use Rattle.step.proofs.Storing.{storing}
use Rattle.document.specs.declared.Side.TheVariants.{Back}
use Rattle.table.specs.Calls.{joined_by}
use mathlib.Core.List.{List}
use mathlib.Core.Path.{ap, ◌∙◌}
use Prim.Native.Nat.{ℕ}
use Rattle.step.proofs.change.store_from.Goals as goal

pub returns-in-Empty : goal.returns-in-Empty
returns-in-Empty c =
    let a = c.args in
    let empty = ap (storing a.config a.b.now a.l a.key.now a.m) c.part.ensures in
    rw c.in-Empty.is (c.store.ensures ∙ empty)

pub returns-in-Frame : goal.returns-in-Frame
returns-in-Frame c = rw c.in-Frame.is c.store-in-Frame.ensures

pub returns-in-Digits : goal.returns-in-Digits
returns-in-Digits c = rw c.in-Digits.is c.store_digits.ensures

pub returns-in-Kept : goal.returns-in-Kept
returns-in-Kept c =
    let a = c.args in
    let empty = ap (λ (x : List ℕ). joined_by a.config a.b.now a.l a.key.now a.m Back x) c.part-in-Kept.ensures in
    rw c.in-Kept.is (c.join.ensures ∙ empty)

pub returns-in-Joined : goal.returns-in-Joined
returns-in-Joined c = rw c.in-Joined.is c.join-in-Joined.ensures
