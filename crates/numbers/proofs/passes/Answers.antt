use Rattle.numbers.specs.Expiry.{passes}
use Rattle.std.proofs.Common.{refl}
use Rattle.numbers.proofs.passes.Goals as goal

pub returns : goal.returns
unfolding passes
returns c = refl
