use Rattle.table.specs.Calls.{keys_for}
use Rattle.table.proofs.put_keys.Goals as goal

pub returns-in-Plain : goal.returns-in-Plain
unfolding keys_for
returns-in-Plain c = rw c.in-Plain.is c.put_keys.ensures

pub returns-in-Ordered : goal.returns-in-Ordered
unfolding keys_for
returns-in-Ordered c = rw c.in-Ordered.is c.put_keys-in-Ordered.ensures
