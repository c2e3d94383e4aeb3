use Rattle.numbers.proofs.Cas.next.Goals as goal

pub returns : goal.returns
returns c = simp c.next.ensures
