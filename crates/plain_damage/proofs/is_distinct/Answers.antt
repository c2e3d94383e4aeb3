use mathlib.Core.Path.{◌∙◌}
use native.Mathlib.Omega.{arith}
use Rattle.plain_damage.proofs.Passes.{too_many, all-distinct}
use Rattle.plain_damage.proofs.is_distinct.Goals as goal

pub returns : goal.returns
returns c = c.rows_distinct.ensures ∙ all-distinct _ _ c.all-rows.ensures.0 (omega (arith, c.all-rows.ensures.1))

pub returns-then-rows-gt256 : goal.returns-then-rows-gt256
returns-then-rows-gt256 c = too_many _ (omega (arith, c.all-rows.ensures.1, c.if-rows-gt256.true))
