use Rattle.rows.specs.RowRules.{head_ok}
use mathlib.Core.Path.{refl}
use Rattle.rows.proofs.damage.head_ok.Goals as goal

pub returns : goal.returns
unfolding head_ok
returns c = refl
