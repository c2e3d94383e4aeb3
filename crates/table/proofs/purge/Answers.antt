use Rattle.table.specs.Calls.{purged_by}
use Rattle.table.proofs.purge.Goals as goal

pub returns-in-Plain : goal.returns-in-Plain
unfolding purged_by
returns-in-Plain c = rw c.in-Plain.is c.purge.ensures

pub returns-in-Ordered : goal.returns-in-Ordered
unfolding purged_by
returns-in-Ordered c = rw c.in-Ordered.is c.purge-in-Ordered.ensures
