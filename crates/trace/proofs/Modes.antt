-- "1 revision, 2 last-write-wins": the test of a mode, and what it says.
use mathlib.Core.Path.{◌≡◌, refl}
use mathlib.Core.Bool.{true, ◌||◌}
use mathlib.Core.Logic.{◌⊎◌, inl, inr}
use Prim.Native.Nat.{ℕ}
use lib.Dec.{eqb}
use borrow.Author.Tests.{eqb-true}
use Rattle.octets.proofs.Choices.{either}

by-test : (n : ℕ) → (eqb n 1 ≡ true) ⊎ (eqb n 2 ≡ true) → (n ≡ 1) ⊎ (n ≡ 2)
by-test n (inl t) = inl (eqb-true n 1 t)
by-test n (inr t) = inr (eqb-true n 2 t)

pub mode-known : (n : ℕ) → (eqb n 1 || eqb n 2) ≡ true → (n ≡ 1) ⊎ (n ≡ 2)
mode-known n t = by-test n (either (eqb n 1) (eqb n 2) t)

pub known-mode : (n : ℕ) → (n ≡ 1) ⊎ (n ≡ 2) → (eqb n 1 || eqb n 2) ≡ true
known-mode n (inl e) = rw e refl
known-mode n (inr e) = rw e refl
