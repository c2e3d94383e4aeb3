use Rattle.effects.proofs.found.Goals as goal

pub returns : goal.returns
returns c = simp (c.nothing.ensures, c.stored-stored.ensures)
