use Rattle.decode.specs.Decode.{touch_of}
use Rattle.decode.proofs.touch_of.Goals as goal

pub returns : goal.returns
unfolding touch_of
returns c = simp c.be32-expiry.ensures
