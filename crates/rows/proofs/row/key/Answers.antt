use mathlib.Core.Path.{ap, ◌∙◌}
use Rattle.octets.specs.Parts.{part}
use Rattle.rows.specs.Row.{key_of, slot_of}
use Rattle.rows.proofs.row.key.Goals as goal

pub returns : goal.returns
unfolding key_of slot_of
returns c = c.part.ensures ∙ ap (part c.args.r.now 32) c.be16.ensures
