use Rattle.numbers.specs.Order.{above}
use Rattle.std.proofs.Common.{refl}
use Rattle.numbers.proofs.above.Goals as goal

pub returns : goal.returns
unfolding above
returns c = refl
