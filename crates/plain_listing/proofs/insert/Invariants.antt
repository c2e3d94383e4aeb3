use mathlib.Core.Path.{◌≡◌}
use Rattle.plain_listing.proofs.Moves.{moved_down}
use Rattle.plain_listing.proofs.insert.Given as goal

abbrev pub invariant-loop-j : goal.invariant-loop-j
invariant-loop-j l = l.order ≡ moved_down l.initial.order l.first l.j
