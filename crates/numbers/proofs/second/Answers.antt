use Rattle.numbers.specs.Order.{second}
use Rattle.numbers.proofs.second.Goals as goal

pub returns-in-ByRevision : goal.returns-in-ByRevision
unfolding second
returns-in-ByRevision c = rw c.in-ByRevision.is

pub returns-in-LastWrite : goal.returns-in-LastWrite
unfolding second
returns-in-LastWrite c = rw c.in-LastWrite.is
