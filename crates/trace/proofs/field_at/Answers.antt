use Rattle.trace.specs.Trace.{field_at}
use Rattle.trace.proofs.field_at.Goals as goal

pub returns-then-at-is_rule : goal.returns-then-at-is_rule
unfolding field_at
returns-then-at-is_rule c = simp (← c.field_of-field.ensures, ← c.is_rule.ensures, c.if-at-is_rule.true)

pub returns : goal.returns
unfolding field_at
returns c = simp (← c.field_of-field.ensures, ← c.is_rule.ensures, c.if-at-is_rule.false)
