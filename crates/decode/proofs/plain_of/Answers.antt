use Rattle.decode.specs.Decode.{plain_of}
use Rattle.decode.proofs.plain_of.Goals as goal

pub returns : goal.returns
unfolding plain_of
returns c = simp (c.be32-flags.ensures, c.be32-expiry.ensures)
