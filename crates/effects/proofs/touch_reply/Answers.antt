use Rattle.effects.proofs.touch_reply.Goals as goal

pub returns-then-shown : goal.returns-then-shown
returns-then-shown c = rw c.if-shown.true

pub returns-else-shown : goal.returns-else-shown
returns-else-shown c = rw c.if-shown.false
