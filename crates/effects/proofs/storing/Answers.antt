use Rattle.effects.proofs.storing.Goals as goal

pub returns : goal.returns
returns c = simp (c.raised.ensures)
