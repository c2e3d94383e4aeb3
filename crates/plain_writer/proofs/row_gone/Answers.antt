use mathlib.Core.Path.{ap, ◌∙◌}
use mathlib.Core.Bool.{◌&&◌, not}
use lib.Dec.{eqb}
use Rattle.document.specs.Stored.{gone}
use Rattle.plain_writer.proofs.Purging.{gone-row}
use Rattle.plain_writer.proofs.row_gone.Goals as goal

pub returns : goal.returns
returns c =
    let a = c.args in
    let g = c.gone.ensures ∙ ap (gone a.clock a.bound.0) c.metadata.ensures in
    (λ i. not (eqb (c.be16.ensures i) 0) && g i) ∙ gone-row a.clock a.bound.0 a.r.now
