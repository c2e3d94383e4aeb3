use Rattle.rows.specs.RowRules.{used_ok}
use mathlib.Core.Path.{refl}
use Rattle.rows.proofs.damage.used_ok.Goals as goal

pub returns : goal.returns
unfolding used_ok
returns c = refl
