use Rattle.table.specs.Calls.{stored_by}
use Rattle.table.proofs.store.Goals as goal

pub returns-in-Over : goal.returns-in-Over
unfolding stored_by
returns-in-Over c = rw c.in-Over.is c.update.ensures

pub returns-in-Into : goal.returns-in-Into
unfolding stored_by
returns-in-Into c = rw c.in-Into.is c.store_new.ensures

pub returns-in-Full : goal.returns-in-Full
unfolding stored_by
returns-in-Full c = rw c.in-Full.is
