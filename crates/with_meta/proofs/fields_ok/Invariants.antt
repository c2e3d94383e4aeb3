-- `with_meta::fields_ok` meets its contract. The loop's invariant: the fields that are left are right exactly if all are.
use mathlib.Core.Path.{◌≡◌}
use lib.ListN.{length}
use Rattle.with_meta.specs.Section.{fields_ok}
use Rattle.with_meta.proofs.fields_ok.Given as goal

abbrev pub invariant-loop-left : goal.invariant-loop-left
invariant-loop-left l = fields_ok l.s ≡ fields_ok l.left

abbrev pub decreases-loop-left : goal.decreases-loop-left
decreases-loop-left l = length l.left
