-- What is written for a number is read as that number: the claim of specs/Claims.antt, by the places that the digits may take.
use Prim.Native.Nat.{ℕ, zero, suc, ◌+◌, ◌-◌, ◌*◌, ◌/◌, ◌%◌, ◌≤◌, ◌<◌, ◌^◌}
use native.Mathlib.Omega.{arith}
use mathlib.Core.Path.{◌≡◌, refl}
use mathlib.Core.Bool.{true}
use mathlib.Core.List.{List, [], ◌∷◌, ◌++◌}
use lib.Dec.{ltb}
use lib.ListN.{length, get_or, length-append}
use borrow.Author.Tests.{lt-ltb, le-leb, ltb-true, ltb-false}
use Rattle.octets.proofs.Choices.{cases, both}
use Rattle.digits.specs.Decimal.{digits_in, digits, value_from, is_digit, all_digits, number_from, number_of}
use Rattle.std.specs.Prelude.{Some}
use Rattle.digits.specs.Claims.{WrittenSays}
use Rattle.digits.proofs.DecimalLaws.{shorter, digits-most}

-- one digit more at the end
value-snoc : (a : ℕ) (xs : List ℕ) (c : ℕ) → value_from a (xs ++ (c ∷ [])) ≡ value_from a xs * 10 + (c - 48)
unfolding value_from
value-snoc a [] c = refl
value-snoc a (x ∷ xs) c = value-snoc (a * 10 + (x - 48)) xs c

digit-is : (d : ℕ) → d < 10 → is_digit (48 + d) ≡ true
unfolding is_digit
digit-is d h = rw (le-leb 48 (48 + d) (omega arith), lt-ltb (48 + d) 58 (omega arith))

all_snoc : (xs : List ℕ) (c : ℕ) → all_digits xs ≡ true → is_digit c ≡ true → all_digits (xs ++ (c ∷ [])) ≡ true
unfolding all_digits
all_snoc [] c e d = rw d
all_snoc (x ∷ xs) c e d = let h = both (is_digit x) (all_digits xs) e in rw (h.0, all_snoc xs c h.1 d)

says : (k n : ℕ) → n < 10 ^ k → value_from 0 (digits_in k n) ≡ n
unfolding digits_in value_from
says zero n h = omega arith
says (suc k) n h =
    cases (ltb n 10)
    (λ t. rw t (omega arith))
    (λ f. rw (f, value-snoc 0 (digits_in k (n / 10)) (48 + n % 10), says k (n / 10) (shorter k n h)) (omega arith))

all_in : (k n : ℕ) → all_digits (digits_in k n) ≡ true
unfolding digits_in all_digits
all_in zero n = refl
all_in (suc k) n =
    cases (ltb n 10)
    (λ t. rw (t, digit-is n (ltb-true n 10 t)))
    (λ f. rw f (all_snoc (digits_in k (n / 10)) (48 + n % 10) (all_in k (n / 10)) (digit-is (n % 10) (omega arith))))

some_in : (k n : ℕ) → 1 ≤ length (digits_in (suc k) n)
unfolding digits_in
some_in k n = cases (ltb n 10) (λ t. rw t (omega arith)) (λ f. rw (f, length-append (digits_in k (n / 10)) ((48 + n % 10) ∷ [])) (omega arith))

first_of : (xs ys : List ℕ) → 1 ≤ length xs → get_or (xs ++ ys) 0 0 ≡ get_or xs 0 0
first_of [] ys h = absurd (omega arith)
first_of (x ∷ xs) ys h = refl

leads : (k n : ℕ) → 0 < n → n < 10 ^ suc k → 48 < get_or (digits_in (suc k) n) 0 0
unfolding digits_in
leads zero n h l = let l' : n < 10 = l in rw (lt-ltb n 10 l') (omega arith)
leads (suc k) n h l =
    cases (ltb n 10)
    (λ t. rw t (omega arith))
    (λ f. rw (f, first_of (digits_in (suc k) (n / 10)) ((48 + n % 10) ∷ []) (some_in k (n / 10))) (leads k (n / 10) (omega (arith, ltb-false n 10 f)) (shorter (suc k) n l)))

read_back : (n : ℕ) → n < 2 ^ 64 → number_of (digits n) ≡ Some n
unfolding number_of number_from digits
read_back n h =
    rw (le-leb 1 (length (digits_in 20 n)) (some_in 19 n), le-leb (length (digits_in 20 n)) 20 (digits-most n), all_in 20 n, says 20 n (omega arith), lt-ltb n (2 ^ 64) h)

pub written-says : WrittenSays
unfolding digits
written-says n h = record { read_back = read_back n h; least = some_in 19 n; most = digits-most n; leading = λ z. leads 19 n z (omega arith) }
