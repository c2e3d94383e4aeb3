use Rattle.document.proofs.raised.Goals as goal

pub returns : goal.returns
returns c = simp c.larger.ensures
