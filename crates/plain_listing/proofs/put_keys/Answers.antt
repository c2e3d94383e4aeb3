use Rattle.listing.proofs.Writing.{nothing_written}
use Rattle.plain_listing.proofs.Listed.{fitting-none, fitting-all}
use Rattle.listing.specs.Listing.{taken, keys_bytes}
use Rattle.document.specs.Documents.{Key}
use Rattle.octets.proofs.Choices.{neither}
use Rattle.octets.specs.Parts.{written}
use borrow.Author.Tests.{ltb-false}
use lib.ListN.{length}
use lib.Dec.{ltb}
use mathlib.Core.List.{List}
use mathlib.Core.Path.{refl, sym, ap, ◌∙◌}
use Rattle.plain_listing.proofs.put_keys.Goals as goal

pub returns-then-out-n : goal.returns-then-out-n
returns-then-out-n c =
    let a = c.args in
    let out = a.out.now in
    let z = fitting-none (length out) a.b.now a.clock a.start.now a.count c.rows_in-n.result c.rows_in-n.ensures c.if-out-n.true in
    (sym (ap length z), sym (ap (written out 24) z ∙ nothing_written out 24))

pub put_in_order-first-requires : goal.put_in_order-first-requires
put_in_order-first-requires c =
    let n = c.rows_in-n.result in
    let t = neither (ltb (length c.args.out.now) 1302) (ltb 256 n) c.if-out-n.false in
    (c.rows_in-n.ensures, (ltb-false 256 n t.1, refl))

pub put_ordered-requires : goal.put_ordered-requires
put_ordered-requires c =
    let out = c.args.out.now in
    let r = c.put_in_order-first.ensures in
    let t = neither (ltb (length out) 1302) (ltb 256 c.rows_in-n.result) c.if-out-n.false in
    (ltb-false (length out) 1302 t.0, (r.0.1, (r.0.0, r.1.0)))

pub returns : goal.returns
returns c =
    let a = c.args in
    let out = a.out.now in
    let f = ap (λ (ks : List Key). keys_bytes (taken a.count 1278 ks)) c.put_in_order-first.ensures.1.1
    ∙ sym (fitting-all (length out) a.b.now a.clock a.start.now a.count c.rows_in-n.result c.rows_in-n.ensures c.if-out-n.false) in
    (c.put_ordered.ensures.0 ∙ ap length f, c.put_ordered.ensures.1 ∙ ap (written out 24) f)
