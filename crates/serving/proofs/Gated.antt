-- What a call that was not refused has shown, and what a refused one leaves.
use Prim.Native.Nat.{ℕ, ◌≤◌}
use mathlib.Core.Path.{◌≡◌, refl}
use mathlib.Core.List.{List}
use mathlib.Core.Bool.{true, not}
use native.Mathlib.Omega.{arith}
use lib.ListN.{length}
use lib.Dec.{ltb}
use borrow.Author.Tests.{ltb-false, not-false}
use Rattle.octets.proofs.Choices.{cond-elim}
use Rattle.header.specs.declared.Header.{Header}
use Rattle.request.specs.Reading.{Gate, Stop, Whole}
use Rattle.request.proofs.Gated.{WholeFrame, no_stop, whole-frame}
use Rattle.engine.specs.declared.Config.{Config}
use Rattle.engines.specs.Damage.{sound_by}
use Rattle.serving.specs.Serve.{Refused, gate_all, answer_by, table_by, reply_by, served, served_table, served_reply}

pub record Open (config : Config) (b s : List ℕ) (n : ℕ) (h : Header) : Type 0 where
  pub undamaged : sound_by config b ≡ true
  pub roomy : 1302 ≤ n
  pub frame : WholeFrame s h

pub was-open : (config : Config) (b s : List ℕ) (n : ℕ) (h : Header) → gate_all config b n s ≡ Whole h → Open config b s n h
unfolding gate_all
was-open config b s n h e =
    cond-elim (not (sound_by config b)) _ _ _ e (λ t z. no_stop _ _ h z)
    (λ t e. cond-elim (ltb n 1302) _ _ _ e (λ u z. no_stop _ _ h z)
    (λ u z. record { undamaged = not-false (sound_by config b) t; roomy = ltb-false _ _ u; frame = whole-frame s h z }))

-- a refused call leaves the table and the reply area as they are
stopped : (config : Config) (b : List ℕ) (clock : ℕ) (s out : List ℕ) (n need : ℕ) (g : Gate) → answer_by config b clock s g ≡ Refused n need
    → (table_by config b clock s g ≡ b) × (reply_by config b clock s out g ≡ out)
stopped config b clock s out n need (Stop m more) e = (refl, refl)
stopped config b clock s out n need (Whole h) e = absurd (let z : ◌≡◌ {A = ℕ} 0 1 = cc in omega arith)

pub refused-keeps : (config : Config) (b : List ℕ) (clock : ℕ) (s out : List ℕ) (n need : ℕ) → served config b clock s (length out) ≡ Refused n need
    → (served_table config b clock s (length out) ≡ b) × (served_reply config b clock s out ≡ out)
unfolding served served_table served_reply
refused-keeps config b clock s out n need e = stopped config b clock s out n need (gate_all config b (length out) s) e
