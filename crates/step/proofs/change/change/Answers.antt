use Rattle.step.specs.Change.{stored_from}
use mathlib.Core.List.{List}
use mathlib.Core.Path.{ap, ◌∙◌}
use Prim.Native.Nat.{ℕ}
use Rattle.step.proofs.change.change.Goals as goal

pub returns-in-Some : goal.returns-in-Some
returns-in-Some c =
    let a = c.args in
    let head = ap (λ (x : List ℕ). stored_from a.config x a.l a.key.now c.in-Some.m a.d.source a.value.now) c.put_head.ensures in
    rw c.in-Some.is (c.store_from.ensures ∙ head)

pub returns-in-None : goal.returns-in-None
returns-in-None c = rw c.in-None.is c.put_clock.ensures
