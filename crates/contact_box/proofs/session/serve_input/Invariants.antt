-- There is room where more is to come.
use Rattle.std.proofs.Common.{◌≡◌, length}
use Rattle.contact_box.specs.Session.{held_of, Waits}
use Rattle.contact_box.proofs.session.serve_input.Given as goal

abbrev pub invariant-loop : goal.invariant-loop
invariant-loop g l = (length l.received ≡ length l.initial.received) × Waits l.s.next (held_of l.s.held l.received)
