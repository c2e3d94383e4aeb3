use Rattle.engine.proofs.config_for.Goals as goal

pub returns-then-plain : goal.returns-then-plain
returns-then-plain c = rw c.if-plain.true

pub returns-else-plain : goal.returns-else-plain
returns-else-plain c = rw c.if-plain.false
