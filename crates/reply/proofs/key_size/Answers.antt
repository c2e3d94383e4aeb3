use lib.ListN.{length}
use mathlib.Core.Path.{ap}
use Rattle.reply.proofs.key_size.Goals as goal

pub returns-in-Found : goal.returns-in-Found
returns-in-Found c = rw c.in-Found.is (ap length c.shown_key.ensures)
