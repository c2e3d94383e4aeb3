use Rattle.plain_listing.proofs.Placing.{place-below, goes_first, goes_after}
use Rattle.plain_listing.specs.Places.{key_at}
use Rattle.rows.specs.Table.{row_count}
use Rattle.keys.specs.Keys.{key_below}
use lib.ListN.{get_or}
use mathlib.Core.List.{List}
use mathlib.Core.Path.{◌≡◌, sym, ap, ◌∙◌}
use Prim.Native.Nat.{ℕ, ◌+◌, ◌-◌, ◌/◌}
use native.Mathlib.Omega.{arith}
use Rattle.plain_listing.proofs.position.Goals as goal

pub returns-then-first-order : goal.returns-then-first-order
returns-then-first-order c =
    let a = c.args in
    let q = c.requires in
    ((omega arith, omega (arith, q.order_len)), goes_first a.b.now a.order.now a.first a.key.now (λ h. let z : ⊥ = omega (arith, c.if-first-order.true) in absurd z))

pub overflow_cast-order : goal.overflow_cast-order
overflow_cast-order c =
    omega (arith, c.type_inv.order c.args.first)

pub key_at-requires : goal.key_at-requires
key_at-requires c =
    let a = c.args in
    let q = c.requires in
    place-below (row_count a.b.now) a.order.now a.first a.first q.within.0 (omega arith) (omega (arith, q.order_len, c.if-first-order.false))

pub returns-then-not-is_below : goal.returns-then-not-is_below
returns-then-not-is_below c =
    let a = c.args in
    let q = c.requires in (
      (omega arith, omega (arith, q.order_len)),
      goes_first a.b.now a.order.now a.first a.key.now
          (λ h. ap (λ (k : List ℕ). key_below k a.key.now) (sym c.key_at.ensures) ∙ sym c.is_below.ensures ∙ c.if-not-is_below.true),
    )

pub loop-lo-init : goal.loop-lo-init
loop-lo-init c =
    let a = c.args in
    let q = c.requires in
    let e : a.first + 1 - 1 ≡ a.first = omega arith in (
      (omega arith, (omega (arith, q.order_len, c.if-first-order.false), omega (arith, q.order_len))),
      (
        ap (λ (i : ℕ). key_below (key_at a.b.now (get_or a.order.now i 0)) a.key.now) e
            ∙ ap (λ (k : List ℕ). key_below k a.key.now) (sym c.key_at.ensures) ∙ sym c.is_below.ensures ∙ c.if-not-is_below.false,
        λ h. let z : ⊥ = omega (arith, q.order_len) in absurd z,
      ),
    )

pub overflow_cast-order-in-loop-lo : goal.overflow_cast-order-in-loop-lo
overflow_cast-order-in-loop-lo c = let l = c.loop-lo in omega (arith, c.type_inv.order (l.lo + (l.hi - l.lo) / 2))

pub key_at-requires-in-loop-lo : goal.key_at-requires-in-loop-lo
key_at-requires-in-loop-lo c =
    let a = c.args in
    let q = c.requires in
    let l = c.loop-lo in
    place-below (row_count a.b.now) a.order.now a.first (l.lo + (l.hi - l.lo) / 2) q.within.0 (omega (arith, l.invariant.0)) (omega (arith, l.invariant.0, c.loop-lo-test.true, q.order_len))

pub loop-lo-preserved-then-is_below : goal.loop-lo-preserved-then-is_below
loop-lo-preserved-then-is_below c =
    let a = c.args in
    let l = c.loop-lo in
    let m = l.lo + (l.hi - l.lo) / 2 in
    let e : m + 1 - 1 ≡ m = omega arith in
    let t = c.loop-lo-test.true in (
      (omega (arith, l.invariant.0), (omega (arith, l.invariant.0, t), l.invariant.0.1.1)),
      (
        ap (λ (i : ℕ). key_below (key_at a.b.now (get_or a.order.now i 0)) a.key.now) e
            ∙ ap (λ (k : List ℕ). key_below k a.key.now) (sym c.key_at-in-loop-lo.ensures) ∙ sym c.is_below-in-loop-lo.ensures ∙ c.if-is_below.true,
        l.invariant.1.1,
      ),
    )

pub loop-lo-preserved : goal.loop-lo-preserved
loop-lo-preserved c =
    let a = c.args in
    let l = c.loop-lo in
    let t = c.loop-lo-test.true in (
      (l.invariant.0.0, (omega (arith, l.invariant.0), omega (arith, l.invariant.0, t))),
      (
        l.invariant.1.0,
        λ h. ap (λ (k : List ℕ). key_below k a.key.now) (sym c.key_at-in-loop-lo.ensures) ∙ sym c.is_below-in-loop-lo.ensures ∙ c.if-is_below.false,
      ),
    )

pub returns : goal.returns
returns c =
    let a = c.args in
    let q = c.requires in
    let l = c.loop-lo in
    let e : l.lo ≡ l.hi = omega (arith, l.invariant.0, c.loop-lo-test.false) in (
      (omega (arith, l.invariant.0), omega (arith, l.invariant.0)),
      goes_after a.b.now a.order.now a.first a.key.now l.lo q.within.1 l.invariant.0.0
          (omega (arith, l.invariant.0, q.order_len)) l.invariant.1.0 (λ h. ap (λ (i : ℕ). key_below (key_at a.b.now (get_or a.order.now i 0)) a.key.now) e ∙ l.invariant.1.1 (omega (arith, q.order_len))),
    )
