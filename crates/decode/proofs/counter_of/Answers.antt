use Rattle.decode.specs.Decode.{counter_of}
use Rattle.decode.proofs.counter_of.Goals as goal

pub returns : goal.returns
unfolding counter_of
returns c = simp (c.be64-delta.ensures, c.be64-initial.ensures, c.be32-expiry.ensures)
