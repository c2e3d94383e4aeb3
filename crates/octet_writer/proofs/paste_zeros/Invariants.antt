-- `paste_zeros` meets its contract: after k turns k zeros are pasted.
use Rattle.octets.specs.Parts.{pasted}
use lib.ListN.{replicate}
use mathlib.Core.Path.{◌≡◌}
use Rattle.octet_writer.proofs.paste_zeros.Given as goal

abbrev pub invariant-loop-k : goal.invariant-loop-k
invariant-loop-k l = l.out ≡ pasted l.initial.out l.at (replicate l.k 0)
