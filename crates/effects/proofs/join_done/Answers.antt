use Rattle.effects.proofs.join_done.Goals as goal

pub returns : goal.returns
returns c = simp (c.storing.ensures, c.plain_numbers-numbers.ensures, c.stored-stored.ensures)
