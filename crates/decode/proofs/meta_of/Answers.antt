use Rattle.decode.specs.Decode.{meta_command}
use mathlib.Core.Path.{refl}
use Rattle.decode.proofs.meta_of.Goals as goal

pub returns : goal.returns
unfolding meta_command
returns c = refl
