use Prim.Native.Nat.{◌-◌}
use mathlib.Core.Path.{◌≡◌}
use mathlib.Core.List.{map}
use lib.ListN.{length, take, drop}
use Rattle.rows.specs.Row.{row_of}
use Rattle.plain.specs.Damage.{distinct}
use Rattle.plain_damage.proofs.Buckets.{seen_in}
use Rattle.plain_damage.proofs.Prints.{prints_of}
use Rattle.plain_damage.proofs.rows_distinct.Given as goal

abbrev pub invariant-loop-i : goal.invariant-loop-i
invariant-loop-i l =
    (length l.prints ≡ 256)
    × ((l.seen ≡ seen_in (prints_of (drop l.i l.rows)))
    × ((take (length l.rows - l.i) (drop l.i l.prints) ≡ prints_of (drop l.i l.rows)) × (l.apart ≡ distinct (map row_of (drop l.i l.rows)))))
