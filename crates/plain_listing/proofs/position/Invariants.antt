use Rattle.plain_listing.specs.Places.{key_at}
use Rattle.keys.specs.Keys.{key_below}
use lib.ListN.{get_or}
use mathlib.Core.Bool.{true, false}
use mathlib.Core.Path.{◌≡◌}
use Prim.Native.Nat.{◌-◌, ◌≤◌, ◌<◌}
use Rattle.plain_listing.proofs.position.Given as goal

abbrev pub invariant-loop-lo : goal.invariant-loop-lo
invariant-loop-lo l =
    ((l.first < l.lo) × ((l.lo ≤ l.hi) × (l.hi ≤ 256)))
    × ((key_below (key_at l.b (get_or l.order (l.lo - 1) 0)) l.key ≡ true) × (l.hi < 256 → key_below (key_at l.b (get_or l.order l.hi 0)) l.key ≡ false))

abbrev pub decreases-loop-lo : goal.decreases-loop-lo
decreases-loop-lo l = l.hi - l.lo
