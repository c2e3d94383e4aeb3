use Rattle.plain_listing.proofs.Moves.{moved_down, move_start, move_step, move-end}
use lib.ListN.{length-set}
use mathlib.Core.Path.{◌≡◌, ap, ◌∙◌}
use Prim.Native.Nat.{◌-◌}
use native.Mathlib.Omega.{arith}
use Rattle.plain_listing.proofs.insert.Goals as goal

pub loop-j-init : goal.loop-j-init
loop-j-init c =
    let a = c.args in
    let q = c.requires in
    move_start a.order.now a.first (omega (arith, q.0)) (omega (arith, q.1))

pub loop-j-preserved : goal.loop-j-preserved
loop-j-preserved c =
    let a = c.args in
    let q = c.requires in
    let l = c.loop-j in
    move_step a.order.now a.first (omega (arith, q.0)) (omega (arith, q.1)) l.j l.auto.j (omega (arith, q.0, q.1, c.loop-j-test.true)) l.order (omega (arith, q.0, q.1, c.loop-j-test.true)) l.invariant

pub returns : goal.returns
returns c =
    let a = c.args in
    let q = c.requires in
    let l = c.loop-j in
    let e : l.j ≡ a.p = omega (arith, l.auto.j-end, q.1, c.loop-j-test.false) in (
      length-set l.order (a.p - 1) a.place ∙ l.auto.order ∙ q.0,
      move-end a.order.now a.first (omega (arith, q.0)) (omega (arith, q.1)) a.p q.1.1.0 (omega (arith, q.0)) l.order a.place
          (l.invariant ∙ ap (moved_down a.order.now a.first) e),
    )
