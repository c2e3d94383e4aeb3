-- `all_same` meets its contract: no byte was apart and what is left is the same where all is.
use Rattle.octets.specs.Compare.{same}
use lib.ListN.{length}
use mathlib.Core.Bool.{not, ◌&&◌}
use mathlib.Core.Path.{◌≡◌}
use Rattle.compare.proofs.all_same.Given as goal

abbrev pub invariant-loop-x : goal.invariant-loop-x
invariant-loop-x l = let s = l.x-iterator.a.rest.now in let t = l.x-iterator.b.rest.now in
    (length s ≡ length t) × (same l.s l.t ≡ (not l.apart && same s t))
