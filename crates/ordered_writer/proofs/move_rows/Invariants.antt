use Prim.Native.Nat.{◌*◌}
use mathlib.Core.Path.{◌≡◌}
use Rattle.octets.proofs.Lists.{moved}
use Rattle.ordered_writer.proofs.move_rows.Given as goal

abbrev pub invariant-loop-i : goal.invariant-loop-i
invariant-loop-i l = l.b ≡ moved l.initial.b l.at (l.n * 1312) 1312 (l.i * 1312)
