use Rattle.ordered_listing.proofs.Walking.{live_from}
use Rattle.listing.specs.Listing.{taken, keys_bytes}
use Rattle.listing.proofs.Writing.{Partly}
use Rattle.ordered_listing.proofs.put_rows.Given as goal

abbrev pub invariant-loop-i : goal.invariant-loop-i
invariant-loop-i l =
    Partly l.initial.out (keys_bytes (taken l.count 1278 (live_from l.clock l.rows l.first))) l.out l.left l.size (live_from l.clock l.rows l.i)
