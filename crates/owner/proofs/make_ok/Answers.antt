use Rattle.owning.specs.Owner.{make_ok}
use Rattle.owner.proofs.make_ok.Goals as goal

pub returns : goal.returns
unfolding make_ok
returns c = simp c.size_ok-size.ensures
