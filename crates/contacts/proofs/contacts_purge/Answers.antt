use Rattle.answers.specs.Answers.{purged_answer}
use mathlib.Core.Path.{ap, ◌∙◌}
use Rattle.engine.specs.declared.Config.{Config}
use Rattle.owning.specs.Owner.{purge_of, purged_bytes}
use Rattle.contacts.proofs.contacts_purge.Goals as goal

pub returns : goal.returns
returns c =
    let a = c.args in
    let e = c.config_for.ensures in
    let q = c.purge.ensures in (
      c.purged_answer.ensures ∙ ap purged_answer (q.0 ∙ ap (λ (k : Config). purge_of k a.b.now a.clock a.bound) e),
      q.1 ∙ ap (λ (k : Config). purged_bytes k a.b.now a.clock a.bound) e,
    )
