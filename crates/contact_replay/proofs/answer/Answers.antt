-- `answer` puts the line of the ending that replaying the trace has; in memory of the right size it has one.
use mathlib.Core.Path.{ap, ◌∙◌}
use Rattle.contact_replay.specs.Line.{line_of}
use Rattle.contact_replay.proofs.Endings.{answers}
use Rattle.contact_replay.proofs.answer.Goals as goal

pub returns : goal.returns
returns c =
    let a = c.args in
    (c.put_line.ensures ∙ ap line_of c.replay.ensures.0, answers a.config a.table.now a.trace.now c.requires.0)
