use Rattle.plain_listing.proofs.Placing.{keys_none, none_within}
use Rattle.plain_listing.proofs.Listed.{sorted_from, sorted_none, sorted_more, sorted_all}
use Rattle.plain_listing.specs.Places.{with_key, keys_listed}
use Rattle.listing.proofs.Sorting.{sort-order}
use Rattle.listing.specs.Order.{InOrder}
use Rattle.rows.specs.Table.{row_count, row_at, rows_of}
use Rattle.rows.specs.Row.{row_of}
use lib.ListN.{drop}
use mathlib.Core.Path.{◌≡◌, refl, sym, ap, ◌∙◌, subst}
use Prim.Native.Nat.{◌+◌, ◌-◌, ◌*◌}
use native.Mathlib.Omega.{arith}
use Rattle.plain_listing.proofs.put_in_order.Goals as goal

pub loop-i-init : goal.loop-i-init
loop-i-init c =
    let a = c.args in
    let q = c.requires in
    let b = a.b.now in (
      (omega arith, omega arith),
      (
        refl,
        (
          none_within (row_count b) a.order.now 256 (omega (arith, q.1.1)),
          keys_none b a.order.now 256 (omega (arith, q.1.1)) ∙ sym (sorted_none a.clock a.start.now b a.n),
        ),
      ),
    )

pub put_row-first-requires : goal.put_row-first-requires
put_row-first-requires c =
    let a = c.args in
    let q = c.requires in
    let l = c.loop-i in
    let b = a.b.now in
    record {
      i_bound = (
        (omega (arith, q.0, l.auto.i, c.loop-i-test.true), omega (arith, q.1.0, l.auto.i, c.loop-i-test.true)),
        (l.invariant.1.0 ∙ q.1.1, (omega (arith, q.1.0, l.invariant.0, c.loop-i-test.true), l.invariant.0.0)),
      );
      within = (l.invariant.1.1.0, subst InOrder (sym l.invariant.1.1.1) (sort-order (keys_listed a.clock a.start.now (rows_of (a.n - l.i) (drop (16 + l.i * 1312) b)))));
    }

pub loop-i-preserved : goal.loop-i-preserved
loop-i-preserved c =
    let a = c.args in
    let q = c.requires in
    let l = c.loop-i in
    let b = a.b.now in
    let r = c.put_row-first.ensures in (
      (omega (arith, l.invariant.0, r.0), omega (arith, l.invariant.0, r.0, c.loop-i-test.true)),
      (
        r.1.0 ∙ sym q.1.1,
        (
          r.1.1.0,
          r.1.1.1 ∙ ap (with_key a.clock a.start.now (row_of (row_at b (l.i - 1)))) l.invariant.1.1.1
              ∙ sorted_more a.clock a.start.now b a.n l.i c.loop-i-test.true l.auto.i q.0,
        ),
      ),
    )

pub returns : goal.returns
returns c =
    let a = c.args in
    let q = c.requires in
    let l = c.loop-i in
    let b = a.b.now in
    let z : l.i ≡ 0 = omega (arith, c.loop-i-test.false) in (
      (l.invariant.0.0, l.invariant.1.0 ∙ q.1.1),
      (l.invariant.1.1.0, l.invariant.1.1.1 ∙ ap (sorted_from a.clock a.start.now b a.n) z ∙ sorted_all a.clock a.start.now b a.n q.0),
    )
