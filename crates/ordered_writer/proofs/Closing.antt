-- Gaps closed in memory, row by row.
use native.Mathlib.Omega.{arith}
use mathlib.Core.Path.{◌≡◌, sym, ap, ◌∙◌}
use mathlib.Core.Bool.{Bool, true, false, not, cond}
use mathlib.Core.Logic.{◌⊎◌, ⊎_elim}
use mathlib.Core.List.{List, ◌++◌, append_assoc}
use Prim.Native.Nat.{ℕ, suc, ◌+◌, ◌-◌, ◌≤◌, ◌<◌}
use lib.ListN.{length, take, drop, replicate, length-replicate, take-append-drop}
use lib.Seq.{drop-drop}
use borrow.Author.Tests.{not-true, not-false}
use Rattle.octets.specs.Parts.{part, pasted, written}
use Rattle.octets.proofs.Lists.{part_length, pasted-self, take-pasted, drop-pasted, written-fits}
use Rattle.rows.specs.Row.{row_of}
use Rattle.rows.specs.Table.{row_count}
use Rattle.plain.specs.Lookup.{is_free}
use Rattle.ordered_writer.specs.Gaps.{closed_bytes, gaps_closed}

-- a row copied by way of an array x
pub copied : (s x s' : List ℕ) (at to : ℕ) → at + 1312 ≤ length s → to + 1312 ≤ length s → x ≡ part s at (at + 1312 - at)
    → s' ≡ written s to x → s' ≡ pasted s to (part s at 1312)
copied s x s' at to h l p q =
    let w : at + 1312 - at ≡ 1312 = omega arith in
    let row = part s at 1312 in
    let k : length row ≡ 1312 = part_length s at 1312 h in
    let f : x ≡ row = p ∙ rw w in
    q ∙ ap (written s to) f ∙ written-fits s to row (omega arith)

module _ (s : List ℕ) (at to : ℕ) (h : to ≤ at) (l : at + 1312 ≤ length s) where
  abbrev row : List ℕ
  row = part s at 1312

  size : length row ≡ 1312
  size = part_length s at 1312 l

  -- a row that stands where it goes
  pub kept_there : at ≤ to → s ≡ pasted s to row
  kept_there g = let e : to ≡ at = omega arith in rw e (pasted-self s at 1312 l)

  module _ (n : ℕ) (m : 0 < n) where
    one_more : closed_bytes n (at - to) (drop at s)
        ≡ cond (is_free (row_of row)) (closed_bytes (n - 1) (at - to + 1312) (drop (at + 1312) s)) (row ++ closed_bytes (n - 1) (at - to) (drop (at + 1312) s))
    one_more = let e : n ≡ suc (n - 1) = omega arith in ap (λ (k : ℕ). closed_bytes k (at - to) (drop at s)) e ∙ rw (drop-drop 1312 at s)

    used_step : (s' : List ℕ) → is_free (row_of row) ≡ false → s' ≡ pasted s to row
        → take (to + 1312) s' ++ closed_bytes (n - 1) (at + 1312 - (to + 1312)) (drop (at + 1312) s') ≡ take to s ++ closed_bytes n (at - to) (drop at s)
    used_step s' f e =
        let k = size in
        let j : to + 1312 ≡ to + length row = omega arith in
        let a : take (to + 1312) s' ≡ take to s ++ row = (λ i. take (j i) (e i)) ∙ take-pasted s to row (omega arith) in
        let g : at + 1312 ≡ to + length row + (at - to) = omega arith in
        let d : drop (at + 1312) s' ≡ drop (at + 1312) s =
        (λ i. drop (g i) (e i))
        ∙ sym (drop-drop (at - to) (to + length row) (pasted s to row))
        ∙ ap (drop (at - to)) (drop-pasted s to row (omega arith))
        ∙ drop-drop (at - to) (to + length row) s
        ∙ ap (λ (x : ℕ). drop x s) (sym g) in
        let z : at + 1312 - (to + 1312) ≡ at - to = omega arith in
        (λ i. a i ++ closed_bytes (n - 1) (z i) (d i)) ∙ append_assoc (take to s) row (closed_bytes (n - 1) (at - to) (drop (at + 1312) s)) ∙ rw (one_more, f)

    free_step : is_free (row_of row) ≡ true → take to s ++ closed_bytes (n - 1) (at + 1312 - to) (drop (at + 1312) s) ≡ take to s ++ closed_bytes n (at - to) (drop at s)
    free_step t = let z : at + 1312 - to ≡ at - to + 1312 = omega arith in rw (z, one_more, t)

    -- a turn of the loop, by whether the row is used
    pub close-step : (s' : List ℕ) (to' : ℕ) (r : Bool) → r ≡ not (is_free (row_of row)) → s' ≡ cond r (pasted s to row) s
        → ((r ≡ true) × (to' ≡ to + 1312)) ⊎ ((r ≡ false) × (to' ≡ to))
        → take to' s' ++ closed_bytes (n - 1) (at + 1312 - to') (drop (at + 1312) s') ≡ take to s ++ closed_bytes n (at - to) (drop at s)
    close-step s' to' r e f came =
        ⊎_elim
        (λ x. rw x.1 (used_step s' (not-true _ (sym e ∙ x.0)) (f ∙ rw x.0)))
        (λ x. let t : s' ≡ s = f ∙ rw x.0 in rw (x.1, t) (free_step (not-false _ (sym e ∙ x.0))))
        came

-- zeros after the used rows
pub close-end : (s s' : List ℕ) (at to : ℕ) → to ≤ at → at ≤ length s → s' ≡ written s to (replicate (at - to) 0) → s' ≡ take to s ++ closed_bytes 0 (at - to) (drop at s)
unfolding pasted
close-end s s' at to h l e =
    let k : length (replicate {A = ℕ} (at - to) 0) ≡ at - to = length-replicate (at - to) 0 in
    let g : to + length (replicate {A = ℕ} (at - to) 0) ≡ at = omega arith in
    e ∙ written-fits s to (replicate (at - to) 0) (omega arith) ∙ ap (λ (x : ℕ). take to s ++ (replicate (at - to) 0 ++ drop x s)) g

-- memory with no room for a header is left as it is
pub close-none : (b : List ℕ) → length b < 16 → b ≡ gaps_closed b
close-none b h = let z : row_count b ≡ 0 = omega arith in rw z (sym (take-append-drop 16 b))
