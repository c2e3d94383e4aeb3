use mathlib.Core.Path.{refl}
use Rattle.rules.specs.Rules.{is_forced}
use Rattle.rules.proofs.is_forced.Goals as goal

pub returns : goal.returns
unfolding is_forced
returns c = refl
