use Rattle.answers.specs.Answers.{document_answer}
use mathlib.Core.Path.{ap, ◌∙◌}
use Rattle.engine.specs.declared.Config.{Config}
use Rattle.owning.specs.Owner.{read_of}
use Rattle.contacts.proofs.contacts_read.Goals as goal

pub returns : goal.returns
returns c =
    let a = c.args in
    let by = ap (λ (k : Config). read_of k a.b.now a.clock a.key.now) c.config_for.ensures in
    c.document_answer.ensures ∙ ap document_answer (c.read.ensures ∙ by)
