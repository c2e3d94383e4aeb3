use Rattle.ordered_lookup.specs.Halving.{halved, key_place}
use Rattle.ordered_lookup.proofs.HalvingLaws.{side_at}
use Rattle.rows.specs.Row.{row_of}
use lib.ListN.{length}
use mathlib.Core.List.{map}
use Prim.Native.Nat.{◌-◌, ◌≤◌}
use mathlib.Core.Path.{◌≡◌}
use Rattle.ordered_lookup.proofs.key_place.Given as goal

abbrev pub invariant-loop-lo : goal.invariant-loop-lo
invariant-loop-lo l = (l.hi ≤ length l.rows) × (key_place l.key (map row_of l.rows) ≡ halved (side_at l.rows l.key) l.lo l.hi)

abbrev pub decreases-loop-lo : goal.decreases-loop-lo
decreases-loop-lo l = l.hi - l.lo
