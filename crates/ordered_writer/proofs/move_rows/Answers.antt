-- `move_rows` meets its contract: what is there is the copy of all rows but those that are left.
use Prim.Native.Nat.{ℕ, ◌+◌, ◌-◌, ◌*◌, ◌≤◌}
use mathlib.Core.List.{List}
use mathlib.Core.Path.{◌≡◌, sym, ap, ◌∙◌}
use native.Mathlib.Nat.{add-zero, sub-zero}
use native.Mathlib.Omega.{arith}
use lib.ListN.{length}
use Rattle.octets.specs.Parts.{part, pasted}
use Rattle.octets.proofs.Lists.{moved, move-none, move-more}
use Rattle.ordered_writer.proofs.move_rows.Goals as goal

-- one more row
one_more : (s0 s s' : List ℕ) (at n left : ℕ) → 1 ≤ left → left ≤ n → at + n * 1312 + 1312 ≤ length s0 → s ≡ moved s0 at (n * 1312) 1312 (left * 1312)
    → s' ≡ pasted s (at + (left - 1) * 1312 + 1312) (part s (at + (left - 1) * 1312) 1312) → s' ≡ moved s0 at (n * 1312) 1312 ((left - 1) * 1312)
one_more s0 s s' at n left h j f e g =
    let w : left * 1312 - 1312 ≡ (left - 1) * 1312 = omega arith in
    move-more s0 s s' at (n * 1312) 1312 (left * 1312) 1312 (omega arith) (omega arith) f e
    (g ∙ ap (λ (j : ℕ). pasted s (at + j + 1312) (part s (at + j) 1312)) (sym w))
    ∙ ap (moved s0 at (n * 1312) 1312) w

-- none is left
all_moved : (s : List ℕ) (at n : ℕ) → moved s at n 1312 0 ≡ pasted s (at + 1312) (part s at n)
all_moved s at n = rw (add-zero, sub-zero)

pub loop-i-init : goal.loop-i-init
loop-i-init c = let a = c.args in move-none a.b.now a.at (a.n * 1312) 1312 (omega arith)

pub loop-i-preserved : goal.loop-i-preserved
loop-i-preserved c =
    let l = c.loop-i in
    let a = c.args in
    one_more a.b.now l.b _ a.at a.n l.i (omega arith) (omega arith) (omega arith) l.invariant c.copy_row.ensures

pub returns : goal.returns
returns c =
    let l = c.loop-i in
    let a = c.args in
    let z : l.i ≡ 0 = omega arith in
    l.invariant ∙ rw z (all_moved a.b.now a.at (a.n * 1312))
