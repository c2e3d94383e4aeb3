use Rattle.plain_writer.proofs.Purging.{row_lent, purge-step, count-step}
use Rattle.plain_writer.specs.Change.{purge_bytes, purge_count}
use Rattle.plain.specs.Purge.{picked, one}
use Rattle.rows.specs.Row.{row_of}
use Rattle.rows.proofs.OneRow.{row_cut}
use Rattle.document.specs.Stored.{gone_doc}
use borrow.Rule.Slice.PartMut.{put_mid}
use lib.ListN.{length, take, drop, take-append-drop}
use mathlib.Core.List.{List, ◌++◌}
use native.Mathlib.Omega.{arith}
use Prim.Native.Nat.{ℕ, ◌+◌, ◌-◌, ◌*◌, ◌≤◌, ◌<◌}
use mathlib.Core.Path.{◌≡◌, sym, ap, ◌∙◌}
use Rattle.plain_writer.proofs.purge_rows.Goals as goal
use Rattle.plain_writer.proofs.purge_rows.Goals.{then-purge_row, else-purge_row}

pub loop-i-preserved : goal.loop-i-preserved
loop-i-preserved c =
    let w = c.purge_row in
    let l = c.loop-i in
    let n = c.args.n in
    let d = gone_doc c.args.clock c.args.bound.0 in
    let at = 16 + l.i * 1312 in
    let h : at + 1312 ≤ length l.b = omega (arith, l.auto.b, c.requires, c.loop-i-test.true) in
    let s = put_mid at (at + 1312 - at) l.b w.new.row in
    let e = row_lent d l.b at h w.new.row w.ensures.1 in
    let t : 0 < n - l.i = omega (arith, c.loop-i-test.true) in
    let a : 16 + (l.i + 1) * 1312 ≡ at + 1312 = omega arith in
    let z : n - (l.i + 1) ≡ n - l.i - 1 = omega arith in
    let cs = count-step d l.b at h s (n - l.i) t e in
    let ps = purge-step d l.b at h s (n - l.i) t e in
    let g : purge_count d (n - (l.i + 1)) (drop (16 + (l.i + 1) * 1312) s) ≡ purge_count d (n - l.i - 1) (drop (at + 1312) s) = λ j. purge_count d (z j) (drop (a j) s) in
    let counted : c.if-purge_row.count ≡ l.count + one w.result =
    elim c.if-purge_row.branch [ then-purge_row x ↦ rw x.if-purge_row.true x.count-is | else-purge_row x ↦ let o : one w.result ≡ 0 = ap one x.if-purge_row.false in omega (arith, x.count-is) ] in
    let most : c.if-purge_row.count ≤ l.count + 1 = elim c.if-purge_row.branch [ then-purge_row x ↦ omega (arith, x.count-is) | else-purge_row x ↦ omega (arith, x.count-is) ] in
    let o : one w.result ≡ one (picked d (row_of (take 1312 (drop at l.b)))) = ap one (w.ensures.0 ∙ ap (λ (r : List ℕ). picked d (row_of r)) (row_cut l.b at)) in
    (omega (arith, l.invariant.0), omega (arith, g, cs, counted, o, l.invariant.1), (λ j. take (a j) s ++ purge_bytes d (z j) (drop (a j) s)) ∙ ps ∙ l.invariant.2)

pub returns : goal.returns
returns c =
    let l = c.loop-i in
    let z : c.args.n - l.i ≡ 0 = omega (arith, c.loop-i-test.false) in
    let counts = rw z at l.invariant.1 in
    (omega (arith, counts), sym (take-append-drop (16 + l.i * 1312) l.b) ∙ rw z at l.invariant.2)
