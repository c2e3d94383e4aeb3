use Rattle.listing.proofs.Writing.{Partly}
use Rattle.plain_listing.specs.Places.{keys_of}
use Rattle.listing.specs.Listing.{taken, keys_bytes}
use Rattle.plain_listing.proofs.put_ordered.Given as goal

abbrev pub invariant-loop-j : goal.invariant-loop-j
invariant-loop-j l = Partly l.initial.out (keys_bytes (taken l.count 1278 (keys_of l.b l.order l.first))) l.out l.left l.size (keys_of l.b l.order l.j)
