use Rattle.listing.proofs.Writing.{begun, out-of-count, out-of-keys, out-of-room, one_written}
use Rattle.plain_listing.proofs.Placing.{place-below, keys_step, keys_none}
use Rattle.plain_listing.proofs.Listed.{key-short}
use Rattle.plain_listing.specs.Places.{keys_of}
use Rattle.rows.specs.Table.{row_count}
use lib.ListN.{length, get_or}
use mathlib.Core.List.{List, ◌∷◌}
use mathlib.Core.Path.{refl, sym, ap, ◌∙◌}
use Prim.Native.Nat.{ℕ, ◌+◌}
use native.Mathlib.Omega.{arith}
use Rattle.plain_listing.proofs.put_ordered.Goals as goal

pub loop-j-init : goal.loop-j-init
loop-j-init c = let a = c.args in begun a.out.now a.count (keys_of a.b.now a.order.now a.first)

pub returns-then-left-eq0 : goal.returns-then-left-eq0
returns-then-left-eq0 c = out-of-count _ _ _ _ _ _ c.loop-j.invariant c.if-left-eq0.true

pub key_at-key-requires : goal.key_at-key-requires
key_at-key-requires c =
    let a = c.args in
    let l = c.loop-j in
    place-below (row_count a.b.now) a.order.now a.first l.j c.requires.1.1.1 l.auto.j c.loop-j-test.true

pub returns-in-None : goal.returns-in-None
returns-in-None c =
    let a = c.args in
    let l = c.loop-j in
    let ks = keys_of a.b.now a.order.now (l.j + 1) in
    let e = keys_step a.b.now a.order.now l.j c.loop-j-test.true ∙ ap (λ (x : List ℕ). x ∷ ks) (sym c.key_at-key.ensures) in
    let p = out-of-room _ _ _ _ _ _ l.invariant c.key_at-key.result.now ks e c.in-None.ensures.0 in
    (p.0, c.in-None.ensures.1 ∙ p.1)

pub loop-j-preserved : goal.loop-j-preserved
loop-j-preserved c =
    let a = c.args in
    let l = c.loop-j in
    let ks = keys_of a.b.now a.order.now (l.j + 1) in
    let e = keys_step a.b.now a.order.now l.j c.loop-j-test.true ∙ ap (λ (x : List ℕ). x ∷ ks) (sym c.key_at-key.ensures) in
    let put = c.in-Some.ensures in
    rw put.1 (one_written _ _ _ _ _ _ l.invariant c.key_at-key.result.now ks e c.requires.0 (omega (arith, c.if-left-eq0.false)) put.0 _ _ refl put.2)

pub returns : goal.returns
returns c =
    let a = c.args in
    let l = c.loop-j in
    out-of-keys _ _ _ _ _ _ l.invariant (keys_none a.b.now a.order.now l.j (omega (arith, c.loop-j-test.false)))
