-- `move_run` meets its contract: what is there is the copy of all bytes but those that are left.
use Prim.Native.Nat.{ℕ, ◌+◌, ◌-◌, ◌≤◌}
use Rattle.octets.proofs.Lists.{moved, move-none, move-more, pasted-one}
use Rattle.octets.specs.Parts.{part, pasted}
use lib.ListN.{length}
use mathlib.Core.List.{List}
use mathlib.Core.Path.{◌≡◌, ap, ◌∙◌}
use native.Mathlib.Nat.{add-zero, sub-zero}
use native.Mathlib.Omega.{arith}
use Rattle.octet_writer.proofs.move_run.Goals as goal

-- c bytes more, those from k on
further : (s0 s s' : List ℕ) (at n by left c low k : ℕ) → low + c ≡ left → k ≡ at + low → left ≤ n → at + n + by ≤ length s0
    → s ≡ moved s0 at n by left → s' ≡ pasted s (k + by) (part s k c) → s' ≡ moved s0 at n by low
further s0 s s' at n by left c low k e f h r p q =
    let w : left - c ≡ low = omega arith in
    let v : k ≡ at + (left - c) = omega arith in
    move-more s0 s s' at n by left c (omega arith) h r p (q ∙ (λ i. pasted s (v i + by) (part s (v i) c))) ∙ ap (moved s0 at n by) w

-- the second loop copies what the first one left
rest : (s0 s1 s2 : List ℕ) (at n by left last : ℕ) → last ≡ 0 → left ≤ n → at + n + by ≤ length s0
    → s1 ≡ moved s0 at n by left → s2 ≡ moved s1 at left by last → s2 ≡ pasted s0 (at + by) (part s0 at n)
rest s0 s1 s2 at n by left last e h f p q =
    let w : left - last ≡ left = omega arith in
    let v : last ≡ left - left = omega arith in
    let z : left - left ≡ 0 = omega arith in
    let r : s2 ≡ pasted s1 (at + (left - left) + by) (part s1 (at + (left - left)) left) = q ∙ rw (w, v) in
    move-more s0 s1 s2 at n by left left (omega arith) h f p r ∙ rw (z, add-zero, sub-zero)

pub loop-left-init : goal.loop-left-init
loop-left-init c = let a = c.args in (omega arith, move-none a.out.now a.at a.n a.by (omega arith))

pub loop-left-preserved : goal.loop-left-preserved
loop-left-preserved c =
    let l = c.loop-left in
    let a = c.args in (
      omega arith,
      further a.out.now l.out _ a.at a.n a.by l.left 32 (l.left - 32) _ (omega arith) (omega arith) l.invariant.0 (omega arith) l.invariant.1 c.move_chunk.ensures,
    )

pub loop-k-init : goal.loop-k-init
loop-k-init c =
    let l = c.loop-left in
    let a = c.args in
    move-none l.out a.at l.left a.by (omega arith)

pub loop-k-preserved : goal.loop-k-preserved
loop-k-preserved c =
    let m = c.loop-k in
    let l = c.loop-left in
    let a = c.args in
    let k = a.at + (m.k - 1) in
    further l.out m.out _ a.at l.left a.by m.k 1 (m.k - 1) k (omega arith) (omega arith) (omega arith) (omega arith) m.invariant
    (pasted-one m.out (k + a.by) k (omega arith) (omega arith))

pub returns : goal.returns
returns c =
    let m = c.loop-k in
    let l = c.loop-left in
    let a = c.args in
    rest a.out.now l.out m.out a.at a.n a.by l.left m.k (omega arith) l.invariant.0 (omega arith) l.invariant.1 m.invariant
