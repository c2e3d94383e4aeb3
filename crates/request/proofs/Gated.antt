-- What a whole frame has shown of the bytes that it stands in.
use Prim.Native.Nat.{ℕ, ◌+◌, ◌≤◌}
use mathlib.Core.Path.{◌≡◌, refl}
use mathlib.Core.List.{List}
use mathlib.Core.Bool.{not}
use native.Mathlib.Omega.{arith}
use lib.ListN.{length}
use lib.Dec.{ltb, eqb}
use borrow.Author.Tests.{ltb-false, eqb-true, not-false}
use Rattle.octets.proofs.Choices.{cond-elim}
use Rattle.header.specs.declared.Header.{Header}
use Rattle.header.specs.Header.{header_of}
use Rattle.request.specs.Reading.{Stop, Whole, gate_of}

pub record WholeFrame (s : List ℕ) (h : Header) : Type 0 where
  pub header : header_of s ≡ h
  pub long : 24 ≤ length s
  pub magic : h.magic ≡ 0x80
  pub limit : h.body ≤ 1400
  pub inside : 24 + h.body ≤ length s

-- an outcome is no whole frame
pub no_stop {ℓ} : {X : Type ℓ} (n need : ℕ) (h : Header) → Stop n need ≡ Whole h → X
no_stop n need h e = absurd (let y : ◌≡◌ {A = ℕ} 0 1 = cc in omega arith)

pub whole-frame : (s : List ℕ) (h : Header) → gate_of s ≡ Whole h → WholeFrame s h
unfolding gate_of
whole-frame s h e =
    cond-elim (ltb (length s) 24) _ _ _ e (λ t z. no_stop _ _ h z)
    (λ t e. cond-elim (not (eqb (header_of s).magic 0x80)) _ _ _ e (λ m z. no_stop _ _ h z)
    (λ m e. cond-elim (ltb 1400 (header_of s).body) _ _ _ e (λ u z. no_stop _ _ h z)
    (λ u e. cond-elim (ltb (length s) (24 + (header_of s).body)) _ _ _ e (λ v z. no_stop _ _ h z)
    (λ v z. let y : header_of s ≡ h = cc in
    rw (← y) (record { header = refl; long = ltb-false _ _ t; magic = eqb-true _ _ (not-false _ m); limit = ltb-false _ _ u; inside = ltb-false _ _ v })))))
