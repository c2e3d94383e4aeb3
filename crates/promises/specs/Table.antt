-- The table under serving: it stays sound; a call that is refused changes no byte of it, and one that answers with another status than 0 none but the kept clock's.
use Rattle.std.specs.Prelude.{ℕ, ◌^◌, ◌<◌, ◌≡◌, true, List, length}
use Rattle.engine.specs.declared.Config.{Config}
use Rattle.octets.specs.Parts.{Bytes}
use Rattle.engines.specs.Damage.{sound_by}
use Rattle.serving.specs.Serve.{Refused, Done, served, served_table, served_reply}
use Rattle.promises.specs.Kept.{clock_raised}

-- whatever the bytes, the clock of 32 bits and the room
abbrev pub StaysSound : Config → Type 0
StaysSound config =
    (b : List ℕ) (clock : ℕ) (s : List ℕ) (room : ℕ) → Bytes b → Bytes s → clock < 2 ^ 32 → sound_by config b ≡ true → sound_by config (served_table config b clock s room) ≡ true

abbrev pub RefusedKeeps : Config → Type 0
RefusedKeeps config =
    (b : List ℕ) (clock : ℕ) (s out : List ℕ) (n need : ℕ) → served config b clock s (length out) ≡ Refused n need
    → (served_table config b clock s (length out) ≡ b) × (served_reply config b clock s out ≡ out)

-- 01's "A non-zero status changes no table byte", amended by order 2: it "now excepts this one number"
abbrev pub StatusKeeps : Config → Type 0
StatusKeeps config =
    (b : List ℕ) (clock : ℕ) (s : List ℕ) (room status used len : ℕ) → Bytes b → served config b clock s room ≡ Done status used len → (status ≡ 0 → ⊥)
    → served_table config b clock s room ≡ clock_raised b clock
