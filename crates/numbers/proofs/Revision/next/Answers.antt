use Rattle.numbers.proofs.Revision.next.Goals as goal

pub returns : goal.returns
returns c = simp c.next.ensures
