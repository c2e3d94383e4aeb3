use Rattle.effects.proofs.meta_numbers.Goals as goal

pub returns-then-w : goal.returns-then-w
returns-then-w c = rw c.if-w.true (simp c.next.ensures)

pub returns : goal.returns
returns c = rw c.if-w.false
