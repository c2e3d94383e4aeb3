-- "One past the end sees no bytes": so it is told that a header is needed, on any table that isn't damaged.
use Rattle.std.specs.Prelude.{ℕ, ◌≤◌, ◌≡◌, true, List, [], length}
use Rattle.engine.specs.declared.Config.{Config}
use Rattle.engines.specs.Damage.{sound_by}
use Rattle.serving.specs.Serve.{Refused, served}
use Rattle.run.specs.Run.{seen}

abbrev pub PastEnd : Config → Type 0
PastEnd config =
    (b : List ℕ) (clock : ℕ) (run : List ℕ) (at room : ℕ) → length run ≤ at
    → (seen at run ≡ []) × (sound_by config b ≡ true → 1302 ≤ room → served config b clock (seen at run) room ≡ Refused 1 24)
