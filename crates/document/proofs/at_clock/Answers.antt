use Rattle.document.proofs.at_clock.Goals as goal

pub returns : goal.returns
returns c = simp c.later.ensures
