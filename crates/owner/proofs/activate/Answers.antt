use mathlib.Core.Path.{refl, sym, ap, ◌∙◌}
use borrow.Author.Tests.{eq-eqb, ne_eqb}
use borrow.Author.Rules.{rules}
use Rattle.std.specs.Prelude.{cond}
use Rattle.octets.specs.Parts.{Bytes}
use Rattle.owning.specs.Owner.{Dead, Active, NotActivated}
use Rattle.owner.proofs.Activating.{answers, leaves, makes}
use Rattle.owner.proofs.activate.Goals as goal

pub returns-in_default : goal.returns-in_default
returns-in_default c =
    let a = c.args in
    let e = sym c.in_default.is ∙ c.checked.ensures in
    (answers a.config a.s.now NotActivated _ e refl, leaves a.config a.s.now NotActivated _ e refl)

pub returns-then-head-eq-DEAD : goal.returns-then-head-eq-DEAD
returns-then-head-eq-DEAD c =
    let a = c.args in
    let e = sym c.in-Some.is ∙ c.checked.ensures in
    let f = sym (ap (λ d. cond d Dead Active) (eq-eqb _ _ c.if-head-eq-DEAD.true)) in
    (answers a.config a.s.now Dead _ e f, leaves a.config a.s.now Dead _ e f)

pub returns : goal.returns
returns c =
    let a = c.args in
    let y : Bytes a.s.now = λ k. search rules in
    let e = sym c.in-Some.is ∙ c.checked.ensures in
    let f = sym (ap (λ d. cond d Dead Active) (ne_eqb _ _ c.if-head-eq-DEAD.false)) in
    (answers a.config a.s.now Active _ e f, makes a.config a.s.now _ _ y e f c.put_state.ensures)
