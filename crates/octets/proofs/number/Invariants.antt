-- `number` meets its contract: after i turns it has the number of the first i bytes.
use Prim.Native.Nat.{◌^◌, ◌<◌}
use Rattle.octets.specs.BigEndian.{num}
use mathlib.Core.Path.{◌≡◌}
use Rattle.octets.proofs.number.Given as goal

abbrev pub invariant-loop-i : goal.invariant-loop-i
invariant-loop-i l = (l.v ≡ num l.s l.at l.i) × (l.v < 256 ^ l.i)
