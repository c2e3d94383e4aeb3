-- The fields of a trace, one by one: a field that isn't broken stands in the bytes that it was read from, and after it come the fields of what is left.
use Rattle.std.specs.Prelude.{Option, Some, None}
use native.Mathlib.Omega.{arith}
use Prim.Native.Nat.{ℕ, zero, suc, ◌+◌, ◌≤◌}
use mathlib.Core.Path.{◌≡◌, refl, sym, ap}
use mathlib.Core.Bool.{false, cond, not, ◌&&◌, false≢true}
use mathlib.Core.List.{List, [], ◌∷◌}
use lib.ListN.{length, drop, length-drop}
use lib.Dec.{ltb, eqb}
use borrow.Author.Tests.{ltb-false, eqb-true}
use Rattle.octets.specs.BigEndian.{num}
use Rattle.octets.proofs.Choices.{cases, both}
use Rattle.trace.specs.declared.Field.{Field}
use Rattle.trace.specs.declared.Field.TheVariants.{Clock, Frame, Reply, Purge, Rule}
use Rattle.trace.specs.Trace.{Placed, length_in, rule_by, field_by, field_of, is_rule, field_at, is_broken, placed_at, placed_from, fields_from}

whole-inside : (s : List ℕ) → is_broken (field_of s) ≡ false → 3 + length_in s ≤ length s
unfolding field_of
whole-inside s e =
    cases (ltb (length s) 3)
    (λ t. absurd (false≢true (sym (rw t at e))))
    (λ t. cases (ltb (length s) (3 + length_in s)) (λ u. absurd (false≢true (sym (rw (t, u) at e)))) (λ u. ltb-false _ _ u))

-- a field at a place is the one that stands there, or broken
pub by_place : (P : Option Field → Type 0) (at : ℕ) (s : List ℕ) → P None → P (field_of s) → P (field_at at s)
unfolding field_at
by_place P at s b f = cases (not (eqb at 3) && is_rule (field_of s)) (λ t. rw t b) (λ t. rw t f)

pub field-inside : (at : ℕ) (s : List ℕ) → is_broken (field_at at s) ≡ false → 3 + length_in s ≤ length s
field-inside at s = by_place (λ f. is_broken f ≡ false → 3 + length_in s ≤ length s) at s (λ e. absurd (false≢true (sym e))) (whole-inside s)

-- what a field that isn't broken says of its length
abbrev pub Says : List ℕ → Option Field → Type 0
Says s (Some (Clock n)) = length_in s ≡ 4
Says s (Some (Frame len)) = length_in s ≡ len
Says s (Some (Reply len)) = length_in s ≡ len
Says s (Some (Purge bound)) = length_in s ≡ 8
Says s (Some (Rule forcing)) = length_in s ≡ 1
Says s None = Unit {0}

says-rule : (n : ℕ) (s : List ℕ) → length_in s ≡ 1 → Says s (rule_by n)
says-rule n s l = cases (eqb n 1) (λ t. rw t l) (λ t. cases (eqb n 2) (λ u. rw (t, u) l) (λ u. rw (t, u) tt))

says-by : (tag : ℕ) (s : List ℕ) → Says s (field_by tag (length_in s) s)
unfolding field_by
says-by tag s =
    cases (eqb tag 1 && eqb (length_in s) 4)
    (λ t. rw t (eqb-true _ _ (both (eqb tag 1) (eqb (length_in s) 4) t).1))
    (λ t. cases (eqb tag 2) (λ u. rw (t, u) refl)
    (λ u. cases (eqb tag 3) (λ v. rw (t, u, v) refl)
    (λ v. cases (eqb tag 4 && eqb (length_in s) 8)
    (λ w. rw (t, u, v, w) (eqb-true _ _ (both (eqb tag 4) (eqb (length_in s) 8) w).1))
    (λ w. cases (eqb tag 5 && eqb (length_in s) 1)
    (λ x. rw (t, u, v, w, x) (says-rule (num s 3 1) s (eqb-true _ _ (both (eqb tag 5) (eqb (length_in s) 1) x).1)))
    (λ x. rw (t, u, v, w, x) tt)))))

whole_says : (s : List ℕ) → Says s (field_of s)
unfolding field_of
whole_says s =
    cases (ltb (length s) 3) (λ t. rw t tt)
    (λ t. cases (ltb (length s) (3 + length_in s)) (λ u. rw (t, u) tt) (λ u. rw (t, u) (says-by (num s 0 1) s)))

pub field-says : (at : ℕ) (s : List ℕ) → Says s (field_at at s)
field-says at s = by_place (Says s) at s tt (whole_says s)

-- more fields than bytes are none
enough : (n m at : ℕ) (s : List ℕ) → length s ≤ n → length s ≤ m → placed_from n at s ≡ placed_from m at s
unfolding placed_from
enough zero zero at s a b = refl
enough zero (suc m) at [] a b = refl
enough zero (suc m) at (x ∷ xs) a b = absurd (omega (arith, a))
enough (suc n) zero at [] a b = refl
enough (suc n) zero at (x ∷ xs) a b = absurd (omega (arith, b))
enough (suc n) (suc m) at [] a b = refl
enough (suc n) (suc m) at (x ∷ xs) a b =
    let s : List ℕ = x ∷ xs in
    let k = length-drop (3 + length_in s) s in
    ap (λ (ps : List Placed). placed_at at s ∷ cond (is_broken (field_at at s)) [] ps)
    (enough n m (at + (3 + length_in s)) (drop (3 + length_in s) s) (omega (arith, k, a)) (omega (arith, k, b)))

pub fields-on : (at : ℕ) (s : List ℕ) → 1 ≤ length s
    → fields_from at s ≡ placed_at at s ∷ cond (is_broken (field_at at s)) [] (fields_from (at + (3 + length_in s)) (drop (3 + length_in s) s))
unfolding fields_from placed_from
fields-on at [] h = absurd (omega (arith, h))
fields-on at (x ∷ xs) h =
    let s : List ℕ = x ∷ xs in
    let k = length-drop (3 + length_in s) s in
    ap (λ (ps : List Placed). placed_at at s ∷ cond (is_broken (field_at at s)) [] ps)
    (enough (length xs) (length (drop (3 + length_in s) s)) (at + (3 + length_in s)) (drop (3 + length_in s) s) (omega (arith, k)) (omega arith))
