-- On a table that is not damaged, a step is serving: whatever the bytes, the clock of 32 bits and the room.
use Rattle.std.specs.Prelude.{ℕ, ◌^◌, ◌<◌, ◌≡◌, true, List}
use Rattle.engine.specs.declared.Config.{Config}
use Rattle.octets.specs.Parts.{Bytes}
use Rattle.rows.specs.Table.{head_of}
use Rattle.engines.specs.Damage.{sound_by}
use Rattle.serving.specs.Serves.{Serves}
use Rattle.step.specs.Step.{step_of}

abbrev pub StepServes : Config → Type 0
StepServes config =
    (b : List ℕ) (clock : ℕ) (s out : List ℕ) → Bytes b → Bytes s → clock < 2 ^ 32 → sound_by config b ≡ true
    → let x = step_of config b (head_of b) clock s out in Serves config b clock s out x.answer x.table x.reply
