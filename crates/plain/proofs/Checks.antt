-- What the damage test says with the head.
use native.Mathlib.Omega.{arith}
use Prim.Native.Nat.{ℕ}
use mathlib.Core.Path.{◌≡◌, sym}
use mathlib.Core.Bool.{Bool, true, false, cond}
use Rattle.octets.proofs.Choices.{cond-elim}
use Rattle.document.specs.declared.Head.{Head}
use Rattle.std.specs.Prelude.{Some, None}

-- what an answer says of the test that it was chosen by, whichever test that is
module _ (t : Bool) (g : Head) where
  pub tells-damaged : cond t (Some g) None ≡ None → t ≡ false
  tells-damaged e =
      cond-elim t (Some g) None None e
      (λ s z. absurd (let y : ◌≡◌ {A = ℕ} 0 1 = cc in omega arith))
      (λ f z. f)

  pub tells-sound : (h : Head) → cond t (Some g) None ≡ Some h → (t ≡ true) × (h ≡ g)
  tells-sound h e =
      cond-elim t (Some g) None (Some h) e
      (λ s z. let q : g ≡ h = cc in (s, sym q))
      (λ f z. absurd (let y : ◌≡◌ {A = ℕ} 0 1 = cc in omega arith))
