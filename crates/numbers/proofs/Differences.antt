-- The difference of two naturals as an integer: its size and its sign, and that the machine's numbers of 32 bits read as themselves.
use Rattle.std.proofs.Common.{◌≡◌, ℕ, zero, suc, ◌+◌, ◌-◌, ◌^◌, ◌<◌, ◌≤◌, Bool, true, false, T, ltb, leb, ℤ, pos, negsuc, ◌-ℤ◌, nat_abs, refl, ◌∙◌, arith, to_z-of_z, w64, Fits, SFits, to_z, of_z, ltb-false, ltb-true, lt-ltb, le-leb, leb-false, leb-true}
use mathlib.Core.Bool.{false≢true}
use lib.IntN.{sub_ℕ, +ℤ_comm, -ℤ_one}
use lib.Signed.{mag, le_z, non_neg}

mag-subℕ : (t : Bool) (a b : ℕ) → ltb a b ≡ t → mag (sub_ℕ a b) ≤ a + b
mag-subℕ true a b e = rw e (omega arith)
mag-subℕ false a b e = rw e (omega arith)

mag-sub : (a b : ℕ) → mag (pos a -ℤ pos b) ≤ a + b
mag-sub a zero = omega arith
mag-sub a (suc b) = mag-subℕ (ltb a (suc b)) a (suc b) refl

-- two tests that hold together are equal
leb-same : (t : Bool) (a b c d : ℕ) → leb a b ≡ t → (a ≤ b → c ≤ d) → (c ≤ d → a ≤ b) → leb a b ≡ leb c d
leb-same true a b c d e to fro = rw (e, le-leb c d (to (leb-true a b e)))
leb-same false a b c d e to fro = by-test (leb c d) refl where
  by-test : (u : Bool) → leb c d ≡ u → leb a b ≡ leb c d
  by-test true f = rw (le-leb a b (fro (leb-true c d f)), f)
  by-test false f = rw (e, f)

le-subℕ : (t : Bool) (a b : ℕ) → ltb a (suc b) ≡ t → le_z (sub_ℕ a (suc b)) (pos 0) ≡ leb a (suc b)
le-subℕ true a b e = let h : a < suc b = ltb-true _ _ e in rw (e, le-leb a (suc b) (omega arith))
le-subℕ false a b e =
    let h : suc b ≤ a = ltb-false _ _ e in
    rw e (leb-same (leb (a - suc b) 0) (a - suc b) 0 a (suc b) refl (λ p. omega arith) (λ p. omega arith))

-- a difference is zero or less exactly if the first number is at most the second
pub le-sub : (a b : ℕ) → le_z (pos a -ℤ pos b) (pos 0) ≡ leb a b
le-sub a zero = leb-same (leb (a + 0) 0) (a + 0) 0 a 0 refl (λ p. omega arith) (λ p. omega arith)
le-sub a (suc b) = le-subℕ (ltb a (suc b)) a b refl

pub small : (a : ℕ) → a < 2 ^ 32 → to_z w64 a ≡ pos a
small a h = rw (lt-ltb a (2 ^ 63) (omega arith))

pub sub-fits : (a b : ℕ) → a < 2 ^ 32 → b < 2 ^ 32 → SFits w64 (pos a -ℤ pos b)
sub-fits a b ha hb = record { sfits = omega (arith, mag-sub a b) }

-- a signed number that fits is kept by the machine
pub kept : (z : ℤ) → mag z < 2 ^ 63 → to_z w64 (of_z w64 z) ≡ z
kept z h = to_z-of_z {w = w64} {z = z} (record { sfits = h })

-- ---- a number without its sign
-- one of zero or more is its own magnitude
pub cast-up : (z : ℤ) → mag z < 2 ^ 63 → le_z (pos 0) z ≡ true → T (non_neg z) × Fits w64 (nat_abs z)
cast-up (pos n) h e = (tt, record { fits = omega arith })
cast-up (negsuc n) h e = absurd (false≢true e)

-- -1 less a negative number, which is one less than its magnitude
pub record Below (z : ℤ) : Type 0 where
  pub less : ℕ
  pub is : negsuc 0 -ℤ z ≡ pos less
  pub one_more : less + 1 ≡ nat_abs z
  pub fits : less < 2 ^ 63

pub below : (z : ℤ) → mag z < 2 ^ 63 → le_z (pos 0) z ≡ false → Below z
below (pos n) h e = absurd (omega (arith, leb-false 0 n e))
below (negsuc n) h e = record { less = n; is = +ℤ_comm (negsuc 0) (pos (suc n)) ∙ -ℤ_one (pos (suc n)); one_more = omega arith; fits = h }
