-- `paste_be` meets its contract: what is left of the number, pasted into what stands, is the number pasted.
use Rattle.octets.specs.BigEndian.{bytes_of}
use Rattle.octets.specs.Parts.{pasted}
use mathlib.Core.Path.{◌≡◌}
use Rattle.octet_writer.proofs.paste_be.Given as goal

abbrev pub invariant-loop-k : goal.invariant-loop-k
invariant-loop-k l = pasted l.initial.out l.at (bytes_of l.n l.v) ≡ pasted l.out l.at (bytes_of l.k l.left)
