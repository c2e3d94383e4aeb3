use Rattle.document.specs.Stored.{gone}
use Rattle.document.proofs.gone.Goals as goal

pub returns : goal.returns
unfolding gone
returns c = simp c.expired.ensures
