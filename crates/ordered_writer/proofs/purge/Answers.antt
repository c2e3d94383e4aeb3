use mathlib.Core.Path.{ap, ◌∙◌}
use Rattle.ordered_writer.specs.Gaps.{gaps_closed}
use Rattle.ordered_writer.proofs.purge.Goals as goal

pub returns : goal.returns
returns c =
    let p = c.purge-count in
    (p.ensures.0, c.close_gaps.ensures ∙ ap gaps_closed p.ensures.1)
