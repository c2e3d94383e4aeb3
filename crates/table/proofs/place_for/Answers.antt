use Rattle.table.specs.Calls.{place_for}
use Rattle.table.proofs.place_for.Goals as goal

pub returns-then-key-new : goal.returns-then-key-new
unfolding place_for
returns-then-key-new c = rw c.if-key-new.true

pub returns-in-Plain : goal.returns-in-Plain
unfolding place_for
returns-in-Plain c = rw (c.if-key-new.false, c.in-Plain.is) c.place.ensures

pub returns-in-Ordered : goal.returns-in-Ordered
unfolding place_for
returns-in-Ordered c = rw (c.if-key-new.false, c.in-Ordered.is) c.place-in-Ordered.ensures
