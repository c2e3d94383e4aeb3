-- Each turn moves past a run of the text.
use Rattle.std.proofs.Common.{◌≡◌, ◌≤◌, min, length, take}
use Rattle.vector_text.proofs.bytes.put.Given as goal

abbrev pub invariant-loop-left : goal.invariant-loop-left
invariant-loop-left l = (length l.out ≡ length l.initial.out) × (min l.from (length l.out) ≤ l.end) × (take l.from l.out ≡ take l.from l.initial.out)

abbrev pub decreases-loop-left : goal.decreases-loop-left
decreases-loop-left l = length l.left
