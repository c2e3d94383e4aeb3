use mathlib.Core.Path.{ap, ◌∙◌}
use Rattle.trace.specs.Trace.{forcing_by, field_of, forcing_in}
use Rattle.trace.proofs.forcing_in.Goals as goal

pub returns : goal.returns
unfolding forcing_in
returns c = c.forcing_by.ensures ∙ ap forcing_by (c.field_of.ensures ∙ ap field_of c.rest.ensures)
