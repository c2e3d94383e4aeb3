-- What a call is told. Order 7: which engine it is for, "Keep the old table as the plain engine". Order 9: whether force is taken, as it is for old traces alone.
use Rattle.std.specs.Prelude.{Bool, true, false}
use Rattle.engine.specs.declared.Config.{Config}
use Rattle.engine.specs.declared.EngineKind.TheVariants.{Plain, Ordered}

-- the plain engine, or rows in key order; order 9: "A with-meta request with option 0x01 now gets 0x83"
abbrev pub config_for : Bool → Config
config_for true = record { engine = Plain; forcing = false }
config_for false = record { engine = Ordered; forcing = false }
