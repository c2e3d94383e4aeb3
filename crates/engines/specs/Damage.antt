-- Damage by the engine that a call is for: "The plain engine keeps 01's rule", and rows in key order have their own.
use Rattle.std.specs.Prelude.{ℕ, List, Bool, cond, Option, Some, None}
use Rattle.document.specs.declared.Head.{Head}
use Rattle.engine.specs.declared.Config.{Config}
use Rattle.engine.specs.declared.EngineKind.{EngineKind}
use Rattle.engine.specs.declared.EngineKind.TheVariants.{Plain, Ordered}
use Rattle.rows.specs.Table.{head_of}
use Rattle.plain.specs.Damage.{sound}
use Rattle.ordered.specs.Damage.{sound_ordered}

abbrev pub sound_in : EngineKind → List ℕ → Bool
sound_in Plain b = sound b
sound_in Ordered b = sound_ordered b

unfoldable pub sound_by : Config → List ℕ → Bool
sound_by config b = sound_in config.engine b

-- the head of a table that is not damaged
unfoldable pub checked_by : Config → List ℕ → Option Head
checked_by config b = cond (sound_by config b) (Some (head_of b)) None
