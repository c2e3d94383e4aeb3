use mathlib.Core.Path.{◌≡◌, refl, ◌∙◌}
use mathlib.Core.Bool.{not}
use lib.Dec.{eqb}
use Rattle.std.specs.Option.{is_some}
use Rattle.std.specs.Prelude.{Option, Some, None}
use Rattle.with_meta.specs.declared.Stored.{Stored}
use Rattle.with_meta.specs.declared.Stored.TheVariants.{Document, Tombstone}
use Rattle.with_meta.specs.FieldRules.{meta_number}
use Rattle.shape.proofs.ShapeShapeCode.has_meta.Goals as goal

numbered : (m : Option Stored) → is_some m ≡ not (eqb (meta_number m) 0)
numbered None = refl
numbered (Some Document) = refl
numbered (Some Tombstone) = refl

pub returns : goal.returns
returns c = c.is_some.ensures ∙ numbered _
