-- A step on a table that is not damaged is serving.
use Prim.Native.Nat.{ℕ, ◌^◌, ◌<◌}
use mathlib.Core.Path.{◌≡◌, refl, ap, ◌∙◌}
use mathlib.Core.Bool.{true, cond}
use mathlib.Core.List.{List}
use lib.Dec.{ltb}
use lib.ListN.{length}
use Rattle.engine.specs.declared.Config.{Config}
use Rattle.octets.specs.Parts.{Bytes}
use Rattle.request.specs.Reading.{Gate, Stop, Whole, gate_of}
use Rattle.document.specs.declared.Head.{Head}
use Rattle.rows.specs.Table.{head_of}
use Rattle.engines.specs.Damage.{sound_by}
use Rattle.serving.specs.Serves.{Serves}
use Rattle.serving.specs.Serve.{Served, gate_all}
use Rattle.serving.proofs.Gated.{was-open}
use Rattle.step.specs.Step.{Stepped, Steps, gate_step, step_of}
use Rattle.serve.specs.Claims.{StepServes}
use Rattle.serve.proofs.Gates.{gate-sound, gated}
use Rattle.serve.proofs.Joint.{frame-serves}

module _ (config : Config) (b : List ℕ) (clock : ℕ) (s out : List ℕ) (y : Bytes b) (z : Bytes s) (small : clock < 2 ^ 32) (sb : sound_by config b ≡ true) where
  abbrev Called : Stepped → Type 0
  Called x = Serves config b clock s out x.answer x.table x.reply

  by-gate : (g : Gate) → gate_all config b (length out) s ≡ g → Called (gate_step config b (head_of b) clock s out g)
  by-gate (Stop n need) e = gated config b s out clock (Stop n need) e _ _ _ refl refl refl
  by-gate (Whole h) e =
      let w = was-open config b s (length out) h e in
      let q = frame-serves config b s clock h out y z small sb w.frame.inside w.roomy in
      gated config b s out clock (Whole h) e _ _ _ q.answer q.table q.reply

pub step-serves : (config : Config) → StepServes config
unfolding step_of
step-serves config b clock s out y z small sb = by-gate config b clock s out y z small sb (cond (ltb (length out) 1302) (Stop 4 0) (gate_of s)) (gate-sound config b s (length out) sb)

-- what a step answered and left there is what serving answers and leaves
pub stepped : (config : Config) (b : List ℕ) (head : Head) (clock : ℕ) (s out : List ℕ) (r : Served) (b' out' : List ℕ) → Bytes b → Bytes s → clock < 2 ^ 32
    → sound_by config b ≡ true → head ≡ head_of b → Steps (step_of config b head clock s out) r b' out' → Serves config b clock s out r b' out'
stepped config b head clock s out r b' out' y z small sb e q =
    let x = step-serves config b clock s out y z small sb in
    let at : step_of config b head clock s out ≡ step_of config b (head_of b) clock s out = λ i. step_of config b (e i) clock s out in
    record {
      answer = q.answer ∙ (ap (λ (p : Stepped). p.answer) at ∙ x.answer);
      table = q.table ∙ (ap (λ (p : Stepped). p.table) at ∙ x.table);
      reply = q.reply ∙ (ap (λ (p : Stepped). p.reply) at ∙ x.reply);
    }
