-- A frame that is cut is shorter than the largest one, so a run that stops for more bytes leaves room for them.
use native.Mathlib.Omega.{arith}
use Prim.Native.Nat.{ℕ, ◌+◌, ◌<◌}
use mathlib.Core.Path.{◌≡◌, refl, ap}
use mathlib.Core.Bool.{Bool, true, false, not, cond}
use mathlib.Core.List.{List}
use lib.Dec.{eqb, ltb}
use lib.ListN.{length}
use borrow.Author.Tests.{eqb-true, ltb-true, ltb-false}
use Rattle.octets.proofs.Choices.{cases, cond-elim}
use Rattle.header.specs.Header.{header_of}
use Rattle.request.specs.Reading.{Gate, Stop, Whole, gate_of}
use Rattle.engine.specs.declared.Config.{Config}
use Rattle.engines.specs.Damage.{sound_by}
use Rattle.serving.specs.Serve.{Served, Refused, Done, gate_all, answer_by, served}
use Rattle.contact_box.specs.declared.session.Next.TheVariants.{Close}
use Rattle.contact_box.specs.Session.{next_of, Waits}

-- less than its own length, and than the longest frame's
abbrev Cut : List ℕ → Type 0
Cut s = (length s < 24 + (header_of s).body) × (length s < 1424)

cut-gate : (s : List ℕ) (need : ℕ) → gate_of s ≡ Stop 1 need → Cut s
unfolding gate_of
cut-gate s need e =
    cond-elim (ltb (length s) 24) _ _ _ e (λ t z. let h = ltb-true (length s) 24 t in (omega (arith, h), omega (arith, h)))
    (λ f e. cond-elim (not (eqb (header_of s).magic 0x80)) _ _ _ e (λ t z. absurd (let y : ◌≡◌ {A = ℕ} 2 1 = cc in omega arith))
    (λ f e. cond-elim (ltb 1400 (header_of s).body) _ _ _ e (λ t z. absurd (let y : ◌≡◌ {A = ℕ} 3 1 = cc in omega arith))
    (λ g e. cond-elim (ltb (length s) (24 + (header_of s).body)) _ _ _ e
    (λ t z. let h = ltb-true (length s) (24 + (header_of s).body) t in (h, omega (arith, h, ltb-false 1400 (header_of s).body g)))
    (λ t z. absurd (let y : ◌≡◌ {A = ℕ} 0 1 = cc in omega arith)))))

pub waits-by : (held : List ℕ) (r : Served) (written : Bool) → ((need : ℕ) → r ≡ Refused 1 need → length held < 1424) → Waits (cond written (next_of r) Close) held
waits-by held r false h = tt
waits-by held (Done status used len) true h = tt
waits-by held (Refused k need) true h =
    cases (eqb k 1)
    (λ t. rw t (h need (ap (λ (m : ℕ). Refused m need) (eqb-true k 1 t))))
    (λ f. rw f (cases (eqb k 4) (λ t. rw t tt) (λ f. rw f tt)))

module _ (config : Config) where
  cut_all : (b s : List ℕ) (room need : ℕ) → gate_all config b room s ≡ Stop 1 need → Cut s
  unfolding gate_all
  cut_all b s room need e =
      cond-elim (not (sound_by config b)) _ _ _ e (λ t z. absurd (let y : ◌≡◌ {A = ℕ} 5 1 = cc in omega arith))
      (λ f e. cond-elim (ltb room 1302) _ _ _ e (λ t z. absurd (let y : ◌≡◌ {A = ℕ} 4 1 = cc in omega arith)) (λ t z. cut-gate s need z))

  cut_by : (b s : List ℕ) (clock room need : ℕ) (g : Gate) → gate_all config b room s ≡ g → answer_by config b clock s g ≡ Refused 1 need → Cut s
  cut_by b s clock room need (Stop k need') q e = let y : Stop k need' ≡ Stop 1 need = cc in cut_all b s room need (cc)
  cut_by b s clock room need (Whole h) q e = absurd (let y : ◌≡◌ {A = ℕ} 0 1 = cc in omega arith)

  pub cut : (b : List ℕ) (clock : ℕ) (s : List ℕ) (room need : ℕ) → served config b clock s room ≡ Refused 1 need → Cut s
  unfolding served
  cut b clock s room need e = cut_by b s clock room need (gate_all config b room s) refl e

  pub waits : (b : List ℕ) (clock : ℕ) (s : List ℕ) (room : ℕ) (written : Bool) → Waits (cond written (next_of (served config b clock s room)) Close) s
  waits b clock s room written = waits-by s (served config b clock s room) written (λ need e. (cut b clock s room need e).1)
