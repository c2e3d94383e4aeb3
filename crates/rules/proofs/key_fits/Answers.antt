use mathlib.Core.Path.{sym}
use Rattle.rules.proofs.RuleLaws.{no-key}
use Rattle.rules.proofs.key_fits.Goals as goal

pub returns-in-None : goal.returns-in-None
returns-in-None g c = sym (no-key (g.S.ShapeCode.told c.args.s).key c.args.n c.in-None.ensures)
