-- `all_zero` meets its contract: what was seen and what is left are zero together where all is.
use Rattle.octets.specs.Compare.{zeros}
use lib.Dec.{eqb}
use lib.ListN.{drop}
use mathlib.Core.Bool.{◌&&◌}
use mathlib.Core.Path.{◌≡◌}
use Rattle.compare.proofs.all_zero.Given as goal

abbrev pub invariant-loop-byte : goal.invariant-loop-byte
invariant-loop-byte l = zeros l.s ≡ (eqb l.seen 0 && zeros (drop l.byte-index l.s))
