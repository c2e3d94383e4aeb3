-- For the code alone: whether a command writes, as its row of rules says. Serving looks for a free row only then.
use Rattle.std.specs.Prelude.{Bool, true, false}
use Rattle.commands.specs.declared.Command.{Command}
use Rattle.commands.specs.declared.Command.TheVariants.{Get, Write, Delete, Count, Noop, Version, WithMeta, GetKeys, Join, Touch}

abbrev pub is_mutation : Command → Bool
is_mutation (Get keyed) = false
is_mutation (Write p) = true
is_mutation Delete = true
is_mutation (Count k) = true
is_mutation Noop = false
is_mutation Version = false
is_mutation (WithMeta w) = true
is_mutation (GetKeys n) = false
is_mutation (Join side) = true
is_mutation (Touch t) = true
