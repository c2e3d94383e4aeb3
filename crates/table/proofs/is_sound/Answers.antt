use mathlib.Core.Path.{sym}
use Rattle.engines.proofs.Checks.{damaged-by, sound-by}
use Rattle.table.proofs.is_sound.Goals as goal

pub returns-in-None : goal.returns-in-None
returns-in-None c = sym (damaged-by _ _ (sym c.in-None.ensures))

pub returns-in-Some : goal.returns-in-Some
returns-in-Some c = sym (sound-by _ _ c.in-Some.field-0 (sym c.in-Some.ensures)).0
