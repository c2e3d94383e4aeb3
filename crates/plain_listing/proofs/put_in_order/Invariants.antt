use Rattle.plain_listing.proofs.Listed.{sorted_from}
use Rattle.plain_listing.specs.Places.{keys_of, Within}
use Rattle.rows.specs.Table.{row_count}
use lib.ListN.{length, drop}
use mathlib.Core.Path.{◌≡◌}
use Prim.Native.Nat.{◌+◌, ◌≤◌}
use Rattle.plain_listing.proofs.put_in_order.Given as goal

abbrev pub invariant-loop-i : goal.invariant-loop-i
invariant-loop-i l =
    ((l.first ≤ 256) × (256 + l.i ≤ l.first + l.n))
    × ((length l.order ≡ length l.initial.order) × (Within (row_count l.b) (drop l.first l.order) × (keys_of l.b l.order l.first ≡ sorted_from l.clock l.start l.b l.n l.i)))
