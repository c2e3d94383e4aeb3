use Rattle.effects.proofs.meta_done.Goals as goal

pub returns : goal.returns
returns c = simp (c.storing.ensures, c.source_of.ensures, c.meta_numbers-numbers.ensures)
