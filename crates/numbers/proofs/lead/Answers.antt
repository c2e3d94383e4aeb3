use Rattle.numbers.specs.Order.{lead}
use Rattle.numbers.proofs.lead.Goals as goal

pub returns-in-ByRevision : goal.returns-in-ByRevision
unfolding lead
returns-in-ByRevision c = rw c.in-ByRevision.is

pub returns-in-LastWrite : goal.returns-in-LastWrite
unfolding lead
returns-in-LastWrite c = rw c.in-LastWrite.is
