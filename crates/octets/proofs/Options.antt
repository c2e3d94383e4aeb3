-- By what an option is.
use native.Mathlib.Omega.{arith}
use Prim.Native.Nat.{ℕ}
use mathlib.Core.Path.{◌≡◌, refl}
use Rattle.std.specs.Prelude.{Option, Some, None}

-- with its equation
pub options {κ} : {A : Type 0} {X : Type κ} (o : Option A) → (o ≡ None → X) → ((a : A) → o ≡ Some a → X) → X
options None f g = f refl
options (Some a) f g = g a refl

pub none-some {κ} : {A : Type 0} {X : Type κ} (a : A) → None ≡ Some a → X
none-some a e = let z : ◌≡◌ {A = ℕ} 0 1 = cc in absurd (omega arith)
