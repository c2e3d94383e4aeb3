use Rattle.answers.specs.Answers.{request_answer}
use mathlib.Core.Path.{ap, ◌∙◌}
use Rattle.contacts.proofs.contacts_read_request.Goals as goal

pub returns : goal.returns
returns c = c.request_answer.ensures ∙ ap request_answer c.read.ensures.reading
