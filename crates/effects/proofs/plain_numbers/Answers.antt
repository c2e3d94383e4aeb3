use Rattle.effects.proofs.plain_numbers.Goals as goal

pub returns : goal.returns
returns c = simp (c.next-2.ensures, c.next.ensures, c.stored.ensures)
