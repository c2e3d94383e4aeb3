use Rattle.ordered_listing.proofs.Walking.{live_from, none_from, passed_over, next-live}
use Rattle.listing.proofs.Writing.{Partly, out-of-count, out-of-keys, out-of-room, one_written}
use native.Mathlib.Omega.{arith}
use mathlib.Core.Path.{◌≡◌, refl, sym, ap, ◌∙◌, subst}
use mathlib.Core.List.{[]}
use lib.ListN.{length, get_or}
use Rattle.rows.proofs.OneRow.{key-inside}
use Prim.Native.Nat.{◌+◌}
use Rattle.ordered_listing.proofs.put_rows.Goals as goal
use Rattle.ordered_listing.proofs.put_rows.Goals.{then-is_live+in-Some, else-is_live}

pub returns-then-left-eq0 : goal.returns-then-left-eq0
returns-then-left-eq0 c = out-of-count _ _ _ _ _ _ c.loop-i.invariant c.if-left-eq0.true

pub returns-in-None : goal.returns-in-None
returns-in-None c =
    let l = c.loop-i in
    let a = c.args in
    let rs = a.rows.now in
    let e = next-live a.clock rs l.i c.loop-i-test.true (sym c.is_live.ensures ∙ c.if-is_live.true) c.key-key.result.now c.key-key.ensures in
    let p = out-of-room _ _ _ _ _ _ l.invariant c.key-key.result.now (live_from a.clock rs (l.i + 1)) e c.in-None.ensures.0 in
    (p.0, c.in-None.ensures.1 ∙ p.1)

pub loop-i-preserved : goal.loop-i-preserved
loop-i-preserved c =
    let l = c.loop-i in
    let a = c.args in
    let rs = a.rows.now in
    let later = live_from a.clock rs (l.i + 1) in
    elim c.if-is_live.branch [
      | then-is_live+in-Some w ↦
          let k = w.key-key.result.now in
          let e = next-live a.clock rs l.i c.loop-i-test.true (sym c.is_live.ensures ∙ w.if-is_live.true) k w.key-key.ensures in
          let put = w.in-Some.ensures in
          let size = w.size-is ∙ put.1 in
          rw (w.out-is, size, w.left-is) (one_written _ _ _ _ _ _ l.invariant k later e c.requires (omega (arith, c.if-left-eq0.false)) put.0 _ _ refl put.2)
      | else-is_live w ↦
          let e = passed_over a.clock rs l.i c.loop-i-test.true (sym c.is_live.ensures ∙ w.if-is_live.false) in
          rw (w.out-is, w.size-is, w.left-is) (subst (Partly _ _ l.out l.left l.size) e l.invariant)
    ]

pub returns : goal.returns
returns c =
    let l = c.loop-i in
    out-of-keys _ _ _ _ _ _ l.invariant (none_from c.args.clock c.args.rows.now l.i (omega (arith, c.loop-i-test.false)))
