use Prim.Native.Nat.{ℕ, ◌+◌}
use mathlib.Core.Path.{ap}
use lib.ListN.{length}
use lib.Dec.{eqb}
use Rattle.header.specs.Header.{header_of}
use Rattle.replay.proofs.is_one.Goals as goal

pub returns : goal.returns
unfolding header_of
returns c = ap (λ (n : ℕ). eqb (24 + n) (length c.args.frame.now)) c.be32.ensures
