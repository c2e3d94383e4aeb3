-- Choices by a test, and what a test's outcome says. `not-true` and `not-false` are in borrow.Author.Tests.
use mathlib.Core.Path.{◌≡◌, refl, sym}
use mathlib.Core.Bool.{Bool, true, false, ◌&&◌, ◌||◌, and-eq-true_iff, cond, false≢true}
use mathlib.Core.Logic.{◌⊎◌, inl, inr}

-- by the outcome of a test, with its equation
pub cases {ℓ} : {X : Type ℓ} (b : Bool) → (b ≡ true → X) → (b ≡ false → X) → X
cases true t f = t refl
cases false t f = f refl

-- what a choice came to says which it was
pub cond-elim {ℓ ℓ'} : {A : Type ℓ} {X : Type ℓ'} (b : Bool) (x y z : A) → cond b x y ≡ z → (b ≡ true → x ≡ z → X) → (b ≡ false → y ≡ z → X) → X
cond-elim true x y z e t f = t refl e
cond-elim false x y z e t f = f refl e

pub both : (a b : Bool) → (a && b) ≡ true → (a ≡ true) × (b ≡ true)
both a b e = (and-eq-true_iff a b).0 e

pub either : (a b : Bool) → (a || b) ≡ true → (a ≡ true) ⊎ (b ≡ true)
either true b e = inl refl
either false b e = inr e

pub neither : (a b : Bool) → (a || b) ≡ false → (a ≡ false) × (b ≡ false)
neither true b e = absurd (false≢true (sym e))
neither false b e = (refl, e)
