use mathlib.Core.Path.{ap, ◌∙◌}
use Rattle.answers.specs.Answers.{request_answer}
use Rattle.answers.proofs.request_answer.Goals as goal

pub returns-in-Status : goal.returns-in-Status
returns-in-Status g c = c.request_refused-in-Status.ensures ∙ ap request_answer c.in-Status.ensures
