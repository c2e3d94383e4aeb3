use Rattle.std.proofs.Common.{eq-eqb, ne_eqb}
use Rattle.numbers.proofs.mode_of.Goals as goal

pub returns-then-n-eq2 : goal.returns-then-n-eq2
returns-then-n-eq2 c = simp (eq-eqb _ _ c.if-n-eq2.true)

pub returns : goal.returns
returns c = simp (ne_eqb _ _ c.if-n-eq2.false)
