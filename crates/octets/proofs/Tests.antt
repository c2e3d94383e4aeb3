-- Laws of specs/Compare.antt.
use native.Mathlib.Omega.{arith}
use native.Mathlib.Numerals.{add-one}
use mathlib.Core.Path.{◌≡◌, refl, sym, ap, ◌∙◌}
use mathlib.Core.Bool.{Bool, true, false, not, ◌&&◌, ◌||◌, and-true, and-false, and_assoc, not-not, false≢true}
use mathlib.Core.List.{List, [], ◌∷◌}
use Prim.Native.Nat.{ℕ, zero, suc, ◌+◌, ◌≤◌, ◌<◌}
use lib.Dec.{eqb}
use lib.Bits.{bit_or, or_add_and, and_le_l, and_le_r}
use lib.ListN.{length, take, drop, get_or, replicate, drop_of_length-le}
use lib.Seq.{drop-cons}
use borrow.Author.Tests.{eqb-true, eqb-false, eq-eqb, ne_eqb}
use Rattle.octets.specs.Compare.{zeros, same}
use Rattle.octets.proofs.Choices.{cases, both}

or-zero : (a b : ℕ) → eqb (bit_or a b) 0 ≡ (eqb a 0 && eqb b 0)
or-zero a b =
    cases (eqb a 0)
    (λ e. cases (eqb b 0)
    (λ f. let p : a ≡ 0 = eqb-true a 0 e in let q : b ≡ 0 = eqb-true b 0 f in rw (e, f, eq-eqb (bit_or a b) 0 (omega (arith, or_add_and a b))))
    (λ f. rw (e, f, ne_eqb (bit_or a b) 0 (λ z. eqb-false b 0 f (omega (arith, or_add_and a b, and_le_l a b, and_le_r a b))))))
    (λ e. rw (e, ne_eqb (bit_or a b) 0 (λ z. eqb-false a 0 e (omega (arith, or_add_and a b, and_le_l a b, and_le_r a b)))))

-- bytes ORed into `seen`: the next one, and none left
pub zeros-next : (s : List ℕ) (i seen : ℕ) → i < length s → (eqb seen 0 && zeros (drop i s)) ≡ (eqb (bit_or seen (get_or s i 0)) 0 && zeros (drop (i + 1) s))
unfolding zeros
zeros-next s i seen h = rw (add-one, drop-cons s i 0, or-zero seen (get_or s i 0)) (sym (and_assoc (eqb seen 0) (eqb (get_or s i 0) 0) (zeros (drop (suc i) s))))

pub zeros-end : (s : List ℕ) (i seen : ℕ) → length s ≤ i → (eqb seen 0 && zeros (drop i s)) ≡ eqb seen 0
unfolding zeros
zeros-end s i seen h = rw (drop_of_length-le s h) (and-true (eqb seen 0))

pub zeros-true : (s : List ℕ) → zeros s ≡ true → s ≡ replicate (length s) 0
unfolding zeros
zeros-true [] e = refl
zeros-true (x ∷ s) e =
    let h = both (eqb x 0) (zeros s) e in
    ap (λ (n : ℕ). n ∷ s) (eqb-true x 0 h.0) ∙ ap (λ (l : List ℕ). 0 ∷ l) (zeros-true s h.1)

pub zeros-replicate : (n : ℕ) → zeros (replicate n 0) ≡ true
unfolding zeros
zeros-replicate zero = refl
zeros-replicate (suc n) = zeros-replicate n

pub same_true : (s t : List ℕ) → same s t ≡ true → s ≡ t
unfolding same
same_true [] [] e = refl
same_true [] (y ∷ t) e = absurd (false≢true e)
same_true (x ∷ s) [] e = absurd (false≢true e)
same_true (x ∷ s) (y ∷ t) e =
    let h = both (eqb x y) (same s t) e in
    rw (eqb-true x y h.0, same_true s t h.1)

pub same_refl : (s : List ℕ) → same s s ≡ true
unfolding same
same_refl [] = refl
same_refl (x ∷ s) = rw (eq-eqb x x refl, same_refl s)

pub same_len : (s t : List ℕ) → (length s ≡ length t → ⊥) → same s t ≡ false
unfolding same
same_len [] [] h = absurd (h refl)
same_len [] (y ∷ t) h = refl
same_len (x ∷ s) [] h = refl
same_len (x ∷ s) (y ∷ t) h = rw (same_len s t (λ e. h (ap suc e)), and-false)

-- a number read of both that differs
pub same_stop : (read : List ℕ → ℕ) (s t : List ℕ) (x y : ℕ) → x ≡ read s → y ≡ read t → (x ≡ y → ⊥) → same s t ≡ false
same_stop read s t x y p q e = cases (same s t) (λ h. absurd (e (p ∙ ap read (same_true s t h) ∙ sym q))) (λ f. f)

-- bytes that differ noted in `apart`: the next one, and none left
pub same_next : (s t : List ℕ) (i : ℕ) (apart : Bool) → i < length s → i < length t
    → (not apart && same (drop i s) (drop i t)) ≡ (not (apart || not (eqb (get_or s i 0) (get_or t i 0))) && same (drop (i + 1) s) (drop (i + 1) t))
unfolding same
same_next s t i true h k = refl
same_next s t i false h k = rw (add-one, drop-cons s i 0 h, drop-cons t i 0 k, not-not (eqb (get_or s i 0) (get_or t i 0)))

pub same_end : (s t : List ℕ) (i : ℕ) (apart : Bool) → length s ≤ i → length t ≤ i → (not apart && same (drop i s) (drop i t)) ≡ not apart
unfolding same
same_end s t i apart h k = rw (drop_of_length-le s h, drop_of_length-le t k) (and-true (not apart))

-- two parts that cover a list between them
pub zeros-cover : (s : List ℕ) (n m : ℕ) → m ≤ n → (zeros (take n s) && zeros (drop m s)) ≡ zeros s
unfolding zeros
zeros-cover s zero zero h = refl
zeros-cover s zero (suc m) h = absurd (omega arith)
zeros-cover [] (suc n) zero h = refl
zeros-cover (x ∷ s) (suc n) zero h = cases (eqb x 0) (λ e. rw e (zeros-cover s n zero (omega arith))) (λ e. rw e)
zeros-cover [] (suc n) (suc m) h = refl
zeros-cover (x ∷ s) (suc n) (suc m) h =
    and_assoc (eqb x 0) (zeros (take n s)) (zeros (drop m s)) ∙ ap (λ (b : Bool). eqb x 0 && b) (zeros-cover s n m (omega arith))

pub same-cover : (s t : List ℕ) (n m : ℕ) → m ≤ n → (same (take n s) (take n t) && same (drop m s) (drop m t)) ≡ same s t
unfolding same
same-cover s t zero zero h = refl
same-cover s t zero (suc m) h = absurd (omega arith)
same-cover [] [] (suc n) zero h = refl
same-cover [] (y ∷ t) (suc n) zero h = refl
same-cover (x ∷ s) [] (suc n) zero h = refl
same-cover (x ∷ s) (y ∷ t) (suc n) zero h = cases (eqb x y) (λ e. rw e (same-cover s t n zero (omega arith))) (λ e. rw e)
same-cover [] [] (suc n) (suc m) h = refl
same-cover [] (y ∷ t) (suc n) (suc m) h = refl
same-cover (x ∷ s) [] (suc n) (suc m) h = refl
same-cover (x ∷ s) (y ∷ t) (suc n) (suc m) h =
    and_assoc (eqb x y) (same (take n s) (take n t)) (same (drop m s) (drop m t))
    ∙ ap (λ (b : Bool). eqb x y && b) (same-cover s t n m (omega arith))
