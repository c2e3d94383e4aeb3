use Rattle.effects.proofs.delete_done.Goals as goal

pub returns : goal.returns
returns c = simp (c.storing.ensures, c.plain_numbers-numbers.ensures)
