use Rattle.effects.proofs.counted.Goals as goal

pub returns : goal.returns
returns c = simp (c.storing.ensures, c.plain_numbers-numbers.ensures)
