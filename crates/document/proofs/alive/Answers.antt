use Rattle.document.proofs.alive.Goals as goal

pub returns : goal.returns
returns c = simp c.expired.ensures
