use Rattle.ordered_listing.proofs.Walking.{walked_none, walked_all}
use Rattle.ordered_listing.specs.Walk.{keys_live}
use Rattle.listing.specs.Listing.{taken, keys_bytes}
use Rattle.listing.proofs.Writing.{nothing_written}
use Rattle.octets.specs.Parts.{written}
use Rattle.rows.proofs.OneRow.{all-rows}
use lib.ListN.{length, drop}
use mathlib.Core.Path.{sym, ap, ◌∙◌}
use Rattle.ordered_listing.proofs.put_keys.Goals as goal

pub returns-then-out-lt-ROOM : goal.returns-then-out-lt-ROOM
returns-then-out-lt-ROOM c =
    let a = c.args in
    let out = a.out.now in
    let z = walked_none (length out) a.b.now a.clock a.start.now a.count c.if-out-lt-ROOM.true in
    (sym (ap length z), sym (ap (written out 24) z ∙ nothing_written out 24))

pub returns : goal.returns
returns c =
    let put = c.put_rows.ensures in
    let a = c.args in
    let b = a.b.now in
    let out = a.out.now in
    let rows = all-rows b c.all.result.now c.all.ensures.0 in
    let f = (λ i. keys_bytes (taken a.count 1278 (keys_live a.clock (drop (c.first_from.ensures i) (rows i))))) ∙ sym (walked_all (length out) b a.clock a.start.now a.count c.if-out-lt-ROOM.false) in
    (put.0 ∙ ap length f, put.1 ∙ ap (written out 24) f)
