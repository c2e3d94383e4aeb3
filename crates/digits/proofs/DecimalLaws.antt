-- Laws of specs/Decimal.antt: digits one by one, written and read.
use Prim.Native.Nat.{ℕ, zero, suc, ◌+◌, ◌-◌, ◌*◌, ◌/◌, ◌%◌, ◌≤◌, ◌<◌, ◌^◌}
use native.Mathlib.Omega.{arith}
use native.Mathlib.Nat.{pow-suc, add-zero}
use mathlib.Core.Path.{◌≡◌, ap, ◌∙◌, sym}
use mathlib.Core.Bool.{true, false, and-false, cond, ◌&&◌}
use mathlib.Core.List.{List, [], ◌∷◌, ◌++◌}
use lib.Dec.{ltb, leb, leb-suc-suc}
use lib.ListN.{length, set, length-append}
use borrow.Author.Tests.{lt-ltb, le-ltb, ltb-true, ltb-false}
use Rattle.octets.specs.Parts.{pasted}
use Rattle.octets.proofs.Choices.{cases}
use Rattle.octets.proofs.Lists.{pasted-none, pasted-push}
use Rattle.std.specs.Prelude.{Option, Some, None, SomeIff}
use Rattle.std.specs.Char.{is_ascii_digit}
use Rattle.digits.specs.Decimal.{digits_in, digits, value_from, is_digit, all_digits, number_from}

-- the quotient by ten takes one place less
pub shorter : (k n : ℕ) → n < 10 ^ suc k → n / 10 < 10 ^ k
shorter k n h = let h' : n < 10 ^ k * 10 = rw pow-suc at h in omega arith

-- one place more changes nothing where the places suffice
enough : (k n : ℕ) → n < 10 ^ suc k → digits_in (suc k) n ≡ digits_in (suc (suc k)) n
unfolding digits_in
enough zero n h = let h' : n < 10 = h in rw (lt-ltb n 10 h')
enough (suc k) n h =
    let ih : digits_in (suc k) (n / 10) ≡ digits_in (suc (suc k)) (n / 10) = enough k (n / 10) (shorter (suc k) n h) in
    cases (ltb n 10) (λ t. rw t) (λ f. ap (λ (l : List ℕ). cond (ltb n 10) ((48 + n) ∷ []) (l ++ ((48 + n % 10) ∷ []))) ih)

pub digits-one : (n : ℕ) → n < 10 → digits n ≡ (48 + n) ∷ []
unfolding digits digits_in
digits-one n h = rw (lt-ltb n 10 h)

split_off : (n : ℕ) → 10 ≤ n → digits_in 20 n ≡ digits_in 19 (n / 10) ++ ((48 + n % 10) ∷ [])
unfolding digits_in
split_off n h = rw (le-ltb n 10 h)

pub digits_more : (n : ℕ) → 10 ≤ n → n < 2 ^ 64 → digits n ≡ digits (n / 10) ++ ((48 + n % 10) ∷ [])
unfolding digits
digits_more n h g = split_off n h ∙ ap (λ (l : List ℕ). l ++ ((48 + n % 10) ∷ [])) (enough 18 (n / 10) (shorter 19 n (omega arith)))

pub length-one : (n : ℕ) → n < 10 → length (digits n) ≡ 1
length-one n h = ap length (digits-one n h)

pub length_more : (n : ℕ) → 10 ≤ n → n < 2 ^ 64 → length (digits n) ≡ length (digits (n / 10)) + 1
length_more n h g = ap length (digits_more n h g) ∙ length-append (digits (n / 10)) _

length-in : (k n : ℕ) → length (digits_in k n) ≤ k
unfolding digits_in
length-in zero n = omega arith
length-in (suc k) n = cases (ltb n 10) (λ t. rw t (omega arith)) (λ f. rw (f, length-append (digits_in k (n / 10)) ((48 + n % 10) ∷ [])) (omega (arith, length-in k (n / 10))))

-- twenty places hold any
pub digits-most : (n : ℕ) → length (digits n) ≤ 20
unfolding digits
digits-most n = length-in 20 n

pub put_one : (n d : ℕ) (xs : List ℕ) (i : ℕ) → n < 10 → i < length xs → d ≡ 48 + n → set xs i d ≡ pasted xs i (digits n)
put_one n d xs i h l e =
    let p = pasted-push xs i [] d (omega arith) in
    let z : i + 0 ≡ i = add-zero i in
    rw (digits-one n h, ← e) (sym (ap (λ (ys : List ℕ). set ys i d) (pasted-none xs i (omega arith))) ∙ rw z at p)

pub put-more : (n d r : ℕ) (xs ys : List ℕ) (i : ℕ) → 10 ≤ n → n < 2 ^ 64 → i + length (digits n) ≤ length xs
    → ys ≡ pasted xs i (digits (n / 10)) → r ≡ i + length (digits (n / 10)) → d ≡ 48 + n % 10 → set ys r d ≡ pasted xs i (digits n)
put-more n d r xs ys i h g l ey er ed = rw (ey, er, ed, digits_more n h g) (pasted-push xs i (digits (n / 10)) (48 + n % 10) (omega (arith, length_more n h g)))

-- std's test for a digit
pub digit-test : (c : ℕ) → is_ascii_digit c ≡ is_digit c
unfolding is_digit
digit-test c = ap (λ b. leb 48 c && b) (sym (leb-suc-suc c 57))

grows : (a : ℕ) (cs : List ℕ) → a ≤ value_from a cs
unfolding value_from
grows a [] = omega arith
grows a (c ∷ cs) = omega (arith, grows (a * 10 + (c - 48)) cs)

-- ---- reading, by one digit
module _ (a c : ℕ) where
  pub right-digit : is_digit c ≡ true → a * 10 + (c - 48) < 2 ^ 64 → number_from a (c ∷ []) ≡ Some (a * 10 + (c - 48))
  unfolding number_from all_digits value_from
  right-digit e h = rw (e, lt-ltb (a * 10 + (c - 48)) (2 ^ 64) h)

  pub no_digit : is_digit c ≡ false → number_from a (c ∷ []) ≡ None
  unfolding number_from all_digits
  no_digit e = rw e

  pub no_ascii_digit : is_ascii_digit c ≡ false → number_from a (c ∷ []) ≡ None
  no_ascii_digit e = no_digit (sym (digit-test c) ∙ e)

  pub too_large : 2 ^ 64 ≤ a * 10 + (c - 48) → number_from a (c ∷ []) ≡ None
  unfolding number_from all_digits value_from
  too_large h = rw (le-ltb (a * 10 + (c - 48)) (2 ^ 64) h, and-false)

  -- the digit added to ten times the number, as checked sums say it
  pub added : (t d : ℕ) (r : Option ℕ) → is_digit c ≡ true → t ≡ a * 10 → d ≡ c - 48 → SomeIff r (t + d < 2 ^ 64) (t + d) → r ≡ number_from a (c ∷ [])
  added t d (Some x) e p q h = let l : a * 10 + (c - 48) < 2 ^ 64 = omega (arith, h.0) in rw (right-digit e l, h.1, p, q)
  added t d None e p q h = sym (too_large (cases (ltb (t + d) (2 ^ 64)) (λ l. absurd (h (ltb-true _ _ l))) (λ l. omega (arith, ltb-false _ _ l))))

  goes_on : (cs : List ℕ) → is_digit c ≡ true → number_from a (c ∷ cs) ≡ number_from (a * 10 + (c - 48)) cs
  unfolding number_from all_digits value_from
  goes_on cs e = rw e

  stops : (cs : List ℕ) → is_digit c ≡ false → number_from a (c ∷ cs) ≡ None
  unfolding number_from all_digits
  stops cs e = rw e

  overflows : (cs : List ℕ) → 2 ^ 64 ≤ a * 10 + (c - 48) → number_from a (c ∷ cs) ≡ None
  unfolding number_from value_from
  overflows cs h = rw (le-ltb (value_from (a * 10 + (c - 48)) cs) (2 ^ 64) (omega (arith, grows (a * 10 + (c - 48)) cs)), and-false)

  -- a digit that fits goes on with the number that it makes, and is under 2^64
  pub number-on : (b : ℕ) (cs : List ℕ) → number_from a (c ∷ []) ≡ Some b → (number_from a (c ∷ cs) ≡ number_from b cs) × (b < 2 ^ 64)
  number-on b cs h =
      cases (is_digit c)
      (λ e. cases (ltb (a * 10 + (c - 48)) (2 ^ 64))
      (λ f. let l = ltb-true _ _ f in let q : Some (a * 10 + (c - 48)) ≡ Some b = sym (right-digit e l) ∙ h in
      let x : a * 10 + (c - 48) ≡ b = cc in (goes_on cs e ∙ rw x, rw (← x) l))
      (λ f. absurd (let q : None ≡ Some b = sym (too_large (ltb-false _ _ f)) ∙ h in let y : ◌≡◌ {A = ℕ} 0 1 = cc in omega arith)))
      (λ e. absurd (let q : None ≡ Some b = sym (no_digit e) ∙ h in let y : ◌≡◌ {A = ℕ} 0 1 = cc in omega arith))

  pub number-stops : (cs : List ℕ) → number_from a (c ∷ []) ≡ None → number_from a (c ∷ cs) ≡ None
  number-stops cs h =
      cases (is_digit c)
      (λ e. cases (ltb (a * 10 + (c - 48)) (2 ^ 64))
      (λ f. absurd (let q : Some (a * 10 + (c - 48)) ≡ None = sym (right-digit e (ltb-true _ _ f)) ∙ h in let y : ◌≡◌ {A = ℕ} 0 1 = cc in omega arith))
      (λ f. overflows cs (ltb-false _ _ f)))
      (λ e. stops cs e)

pub number-ends : (a : ℕ) → a < 2 ^ 64 → number_from a [] ≡ Some a
unfolding number_from all_digits value_from
number-ends a h = rw (lt-ltb a (2 ^ 64) h)
