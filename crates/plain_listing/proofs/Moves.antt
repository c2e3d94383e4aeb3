-- Bytes moved down by one place, to make room for one more.
use native.Mathlib.Omega.{arith}
use mathlib.Core.Path.{◌≡◌, sym, ap, ◌∙◌}
use mathlib.Core.List.{List, [], ◌∷◌, ◌++◌, append_assoc}
use Prim.Native.Nat.{ℕ, suc, ◌+◌, ◌-◌, ◌≤◌, ◌<◌}
use lib.ListN.{length, take, drop, get_or, set, length-append, length-drop}
use lib.Seq.{take-suc, drop_at, get_or-drop, length-take-le}
use Rattle.octets.specs.Parts.{part, pasted}
use Rattle.octets.proofs.Lists.{part_length, pasted-none, pasted-push, drop-pasted}

module _ (s : List ℕ) (at : ℕ) (xs : List ℕ) (l : at + length xs ≤ length s) where
  -- what stands after what is written, and from its first byte on
  after-pasted : (i : ℕ) → at + length xs ≤ i → get_or (pasted s at xs) i 0 ≡ get_or s i 0
  after-pasted i h =
      let n = at + length xs in
      let e : n + (i - n) ≡ i = omega arith in
      ap (λ (k : ℕ). get_or (pasted s at xs) k 0) (sym e)
      ∙ sym (get_or-drop n (pasted s at xs) (i - n) 0)
      ∙ ap (λ (t : List ℕ). get_or t (i - n) 0) (drop-pasted s at xs l)
      ∙ get_or-drop n s (i - n) 0
      ∙ ap (λ (k : ℕ). get_or s k 0) e

  from-pasted : drop at (pasted s at xs) ≡ xs ++ drop (at + length xs) s
  unfolding pasted
  from-pasted = drop_at (take at s) (xs ++ drop (at + length xs) s) at (length-take-le at s (omega arith))

part-more : (s : List ℕ) (first j : ℕ) → first ≤ j → j < length s → part s first (j + 1 - first) ≡ part s first (j - first) ++ (get_or s j 0 ∷ [])
part-more s first j h k =
    let e : j + 1 - first ≡ suc (j - first) = omega arith in
    let f : first + (j - first) ≡ j = omega arith in
    ap (λ (n : ℕ). part s first n) e
    ∙ take-suc (drop first s) (j - first) 0 (simp length-drop (omega arith))
    ∙ ap (λ (v : ℕ). part s first (j - first) ++ (v ∷ [])) (get_or-drop first s (j - first) 0 ∙ ap (λ (n : ℕ). get_or s n 0) f)

-- the bytes from first to j, moved down
unfoldable pub moved_down : List ℕ → ℕ → ℕ → List ℕ
moved_down s first j = pasted s (first - 1) (part s first (j - first))

module _ (s : List ℕ) (first : ℕ) (l : first ≤ length s) (m : 1 ≤ first) where
  pub move_start : s ≡ moved_down s first first
  unfolding moved_down
  move_start = let z : first - first ≡ 0 = omega arith in rw z (sym (pasted-none s (first - 1) (omega arith)))

  module _ (j : ℕ) (h : first ≤ j) (k : j ≤ length s) where
    abbrev xs : List ℕ
    xs = part s first (j - first)

    long : length xs ≡ j - first
    long = part_length s first (j - first) (omega arith)

    -- one more byte after those
    push : (c : List ℕ) (v : ℕ) → c ≡ moved_down s first j → set c (j - 1) v ≡ pasted s (first - 1) (xs ++ (v ∷ []))
    unfolding moved_down
    push c v e =
        let a : j - 1 ≡ first - 1 + length xs = omega (arith, long) in
        (λ i. set (e i) (a i) v) ∙ pasted-push s (first - 1) xs v (omega (arith, long))

    pub move_step : (c : List ℕ) → j < length s → c ≡ moved_down s first j → set c (j - 1) (get_or c j 0) ≡ moved_down s first (j + 1)
    unfolding moved_down
    move_step c n e =
        let g : get_or c j 0 ≡ get_or s j 0 = ap (λ (x : List ℕ). get_or x j 0) e ∙ after-pasted s (first - 1) xs (omega (arith, long)) j (omega (arith, long)) in
        push c (get_or c j 0) e ∙ ap (λ (v : ℕ). pasted s (first - 1) (xs ++ (v ∷ []))) g ∙ ap (pasted s (first - 1)) (sym (part-more s first j h n))

    pub move-end : (c : List ℕ) (v : ℕ) → c ≡ moved_down s first j → drop (first - 1) (set c (j - 1) v) ≡ take (j - first) (drop first s) ++ (v ∷ drop j s)
    move-end c v e =
        let n : length (xs ++ (v ∷ [])) ≡ j - first + 1 = simp length-append (omega (arith, long)) in
        let f : first - 1 + length (xs ++ (v ∷ [])) ≡ j = omega (arith, n) in
        ap (drop (first - 1)) (push c v e)
        ∙ from-pasted s (first - 1) (xs ++ (v ∷ [])) (omega (arith, n))
        ∙ ap (λ (q : ℕ). (xs ++ (v ∷ [])) ++ drop q s) f
        ∙ append_assoc xs (v ∷ []) (drop j s)
