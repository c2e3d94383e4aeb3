use Rattle.table.specs.Calls.{joined_by}
use Rattle.table.proofs.join.Goals as goal

pub returns-in-Over : goal.returns-in-Over
unfolding joined_by
returns-in-Over c = rw c.in-Over.is c.join.ensures

pub returns-in-Into : goal.returns-in-Into
unfolding joined_by
returns-in-Into c = rw c.in-Into.is c.store_new.ensures

pub returns-in-Full : goal.returns-in-Full
unfolding joined_by
returns-in-Full c = rw c.in-Full.is
