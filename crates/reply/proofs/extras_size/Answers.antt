use Rattle.octets.specs.BigEndian.{bytes_of}
use Rattle.reply.proofs.extras_size.Goals as goal

pub returns-in-Found : goal.returns-in-Found
unfolding bytes_of
returns-in-Found c = rw c.in-Found.is
