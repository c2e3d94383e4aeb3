-- Which gate a call meets, and what serving is by the gate it met.
use Prim.Native.Nat.{ℕ}
use mathlib.Core.Path.{◌≡◌, sym, ap, ◌∙◌}
use mathlib.Core.Bool.{true, false, cond}
use mathlib.Core.List.{List}
use lib.ListN.{length}
use lib.Dec.{ltb}
use Rattle.engine.specs.declared.Config.{Config}
use Rattle.request.specs.Reading.{Gate, Stop, gate_of}
use Rattle.engines.specs.Damage.{sound_by}
use Rattle.serving.specs.Serves.{Serves}
use Rattle.serving.specs.Serve.{Served, gate_all, answer_by, table_by, reply_by, served, served_table, served_reply}

module _ (config : Config) (b s : List ℕ) (room : ℕ) where
  pub gate-damaged : sound_by config b ≡ false → gate_all config b room s ≡ Stop 5 0
  unfolding gate_all
  gate-damaged d = rw d

  pub gate-sound : sound_by config b ≡ true → gate_all config b room s ≡ cond (ltb room 1302) (Stop 4 0) (gate_of s)
  unfolding gate_all
  gate-sound u = rw u

pub gated : (config : Config) (b s out : List ℕ) (clock : ℕ) (g : Gate) → gate_all config b (length out) s ≡ g → (r : Served) (b' out' : List ℕ)
    → r ≡ answer_by config b clock s g → b' ≡ table_by config b clock s g → out' ≡ reply_by config b clock s out g
    → Serves config b clock s out r b' out'
unfolding served served_table served_reply
gated config b s out clock g e r b' out' er eb eo =
    record { answer = er ∙ sym (ap (answer_by config b clock s) e); table = eb ∙ sym (ap (table_by config b clock s) e); reply = eo ∙ sym (ap (reply_by config b clock s out) e) }
