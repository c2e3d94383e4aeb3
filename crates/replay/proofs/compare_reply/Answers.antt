use mathlib.Core.Path.{sym, ◌∙◌}
use borrow.Author.Tests.{eq-eqb, ne_eqb}
use Rattle.replay.proofs.compare_reply.Goals as goal

pub returns-then-p-eq0 : goal.returns-then-p-eq0
returns-then-p-eq0 c = simp (eq-eqb _ _ c.if-p-eq0.true)

pub returns-then-not-equal : goal.returns-then-not-equal
returns-then-not-equal c = simp (ne_eqb _ _ c.if-p-eq0.false, sym c.equal.ensures ∙ c.if-not-equal.true)

pub returns : goal.returns
returns c = simp (ne_eqb _ _ c.if-p-eq0.false, sym c.equal.ensures ∙ c.if-not-equal.false, c.passed.ensures)
