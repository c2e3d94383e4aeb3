use Rattle.rules.proofs.count_ok.Goals as goal

pub returns-in-Count : goal.returns-in-Count
returns-in-Count c = rw (c.in-Count.is, c.count_of.ensures)
