-- `all_zero` meets its contract: what was seen and what is left are zero together where all is.
use Rattle.octets.proofs.Tests.{zeros-next, zeros-end}
use mathlib.Core.Path.{sym, ◌∙◌}
use Rattle.compare.proofs.all_zero.Goals as goal

pub loop-byte-preserved : goal.loop-byte-preserved
loop-byte-preserved c = let l = c.loop-byte in l.invariant ∙ zeros-next _ l.byte-index l.seen c.loop-byte-test.true

pub returns : goal.returns
returns c = let l = c.loop-byte in sym (l.invariant ∙ zeros-end _ l.byte-index l.seen c.loop-byte-test.false)
