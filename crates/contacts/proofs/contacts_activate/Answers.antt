use Rattle.answers.specs.Answers.{activated_answer}
use mathlib.Core.Path.{ap, ◌∙◌}
use Rattle.engine.specs.declared.Config.{Config}
use Rattle.owning.specs.Owner.{activate_of, activated_bytes}
use Rattle.contacts.proofs.contacts_activate.Goals as goal

pub returns : goal.returns
returns c =
    let a = c.args in
    let e = c.config_for.ensures in
    let q = c.activate.ensures in (
      c.activated_answer.ensures ∙ ap activated_answer (q.0 ∙ ap (λ (k : Config). activate_of k a.b.now) e),
      q.1 ∙ ap (λ (k : Config). activated_bytes k a.b.now) e,
    )
