use Rattle.plain_listing.proofs.Placing.{put-within, put-placed}
use Rattle.plain_listing.proofs.Listed.{with_none, with-one}
use Rattle.plain_listing.specs.Places.{keys_of, is_listed}
use Rattle.rows.proofs.OneRow.{row_cut, row-there}
use Rattle.rows.specs.Table.{row_count}
use Rattle.rows.specs.Row.{row_of}
use mathlib.Core.List.{List}
use mathlib.Core.Path.{sym, ap, ◌∙◌}
use Prim.Native.Nat.{ℕ, ◌+◌, ◌*◌}
use native.Mathlib.Omega.{arith}
use Rattle.plain_listing.proofs.put_row.Goals as goal

pub returns-then-not-is_listed : goal.returns-then-not-is_listed
returns-then-not-is_listed c =
    let a = c.args in
    let q = c.requires in
    let b = a.b.now in
    let cut = row_cut b (16 + a.i * 1312) ∙ sym (row-there b a.i q.i_bound.0.0) in
    let is = ap (λ (r : List ℕ). is_listed a.clock a.start.now (row_of r)) (sym cut) ∙ sym c.is_listed.ensures in
    ((omega arith, omega arith), (q.i_bound.1.0, (q.within.0, sym (with_none a.clock a.start.now b a.i (keys_of b a.order.now a.first) (is ∙ c.if-not-is_listed.true)))))

pub returns : goal.returns
returns c =
    let a = c.args in
    let q = c.requires in
    let b = a.b.now in
    let order = a.order.now in
    let p = c.position-p.result in
    let low = c.position-p.ensures.0.0 in
    let moved = c.insert.ensures.1 in
    let order' = c.insert.new.order in
    let cut = row_cut b (16 + a.i * 1312) ∙ sym (row-there b a.i q.i_bound.0.0) in
    let is = ap (λ (r : List ℕ). is_listed a.clock a.start.now (row_of r)) (sym cut) ∙ sym c.is_listed.ensures in (
      (omega arith, omega arith),
      (
        c.insert.ensures.0,
        (
          put-within b order a.first p a.i order' low moved (row_count b) q.within.0 q.i_bound.0.0,
          put-placed b order a.first p a.i order' low moved c.key_at.result.now c.key_at.ensures c.position-p.ensures.1
              ∙ sym (with-one a.clock a.start.now b a.i (keys_of b order a.first) (is ∙ c.if-not-is_listed.false)),
        ),
      ),
    )
