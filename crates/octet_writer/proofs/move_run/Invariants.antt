-- `move_run` meets its contract: what is there is the copy of all bytes but those that are left.
use Prim.Native.Nat.{◌≤◌}
use Rattle.octets.proofs.Lists.{moved}
use mathlib.Core.Path.{◌≡◌}
use Rattle.octet_writer.proofs.move_run.Given as goal

abbrev pub invariant-loop-left : goal.invariant-loop-left
invariant-loop-left l = (l.left ≤ l.n) × (l.out ≡ moved l.initial.out l.at l.n l.by l.left)

abbrev pub decreases-loop-left : goal.decreases-loop-left
decreases-loop-left l = l.left

abbrev pub invariant-loop-k : goal.invariant-loop-k
invariant-loop-k l = l.out ≡ moved l.initial.out l.at l.left l.by l.k
