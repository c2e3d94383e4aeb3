use Rattle.answers.specs.Answers.{written_answer}
use mathlib.Core.Path.{ap, ◌∙◌}
use Rattle.contacts.proofs.contacts_write_request.Goals as goal

pub returns : goal.returns
returns c =
    let wrote = c.write.ensures in
    (c.written_answer.ensures ∙ ap written_answer wrote.0, rw (← wrote.0) wrote.1)
