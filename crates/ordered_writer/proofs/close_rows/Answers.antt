use mathlib.Core.Path.{◌≡◌, ◌∙◌}
use native.Mathlib.Omega.{arith}
use mathlib.Core.Logic.{inl, inr}
use mathlib.Core.List.{◌++◌}
use Prim.Native.Nat.{◌+◌, ◌-◌, ◌*◌, ◌≤◌, ◌<◌}
use lib.ListN.{length, take, drop}
use Rattle.ordered_writer.specs.Gaps.{closed_bytes}
use Rattle.ordered_writer.proofs.Closing.{close-step, close-end}
use Rattle.ordered_writer.proofs.close_rows.Goals as goal
use Rattle.ordered_writer.proofs.close_rows.Goals.{then-keep_row, else-keep_row}

pub loop-i-preserved : goal.loop-i-preserved
loop-i-preserved c =
    let w = c.keep_row in
    let l = c.loop-i in
    let n = c.args.n in
    let at = 16 + l.i * 1312 in
    let s = w.new.b in
    let to = c.if-keep_row.to in
    let h : at + 1312 ≤ length l.b = omega (arith, l.auto.b, c.requires, c.loop-i-test.true) in
    let t : 0 < n - l.i = omega (arith, c.loop-i-test.true) in
    let a : 16 + (l.i + 1) * 1312 ≡ at + 1312 = omega arith in
    let z : n - (l.i + 1) ≡ n - l.i - 1 = omega arith in
    let m : to ≤ l.to + 1312 = elim c.if-keep_row.branch [ then-keep_row x ↦ omega (arith, x.to-is) | else-keep_row x ↦ omega (arith, x.to-is) ] in
    let q = close-step l.b at l.to l.invariant.0 h (n - l.i) t s to w.result w.ensures.0 w.ensures.1
    (elim c.if-keep_row.branch [ then-keep_row x ↦ inl (x.if-keep_row.true, x.to-is) | else-keep_row x ↦ inr (x.if-keep_row.false, x.to-is) ]) in
    (omega (arith, l.invariant.0, m), (λ j. take to s ++ closed_bytes (z j) (a j - to) (drop (a j) s)) ∙ q ∙ l.invariant.1)

pub returns : goal.returns
returns c =
    let l = c.loop-i in
    let e : l.i ≡ c.args.n = omega (arith, l.auto.i-end, c.loop-i-test.false) in
    let z : c.args.n - c.args.n ≡ 0 = omega arith in
    let known = rw (e, z) at l.invariant.1 in
    close-end l.b _ (16 + c.args.n * 1312) l.to (omega (arith, l.invariant.0, e)) (omega (arith, l.auto.b, c.requires)) c.put_zeros.ensures ∙ known
