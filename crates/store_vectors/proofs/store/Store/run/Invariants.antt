-- Each turn moves past a frame.
use Rattle.std.proofs.Common.{length}
use Rattle.store_vectors.proofs.store.Store.run.Given as goal

abbrev pub decreases-loop-left : goal.decreases-loop-left
decreases-loop-left l = length l.left
