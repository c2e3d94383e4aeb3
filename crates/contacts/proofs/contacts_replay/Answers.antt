use Rattle.answers.specs.Answers.{replayed_answer}
use mathlib.Core.Path.{ap, ◌∙◌}
use Rattle.engine.specs.declared.Config.{Config}
use Rattle.replay.specs.Replay.{replayed}
use Rattle.contacts.proofs.contacts_replay.Goals as goal

pub returns : goal.returns
returns c =
    let a = c.args in
    let e = c.config_for.ensures in
    let q = c.replay.ensures in (
      c.replayed_answer.ensures ∙ ap replayed_answer (q.0 ∙ ap (λ (k : Config). (replayed k a.b.now a.trace.now).answer) e),
      q.1 ∙ ap (λ (k : Config). (replayed k a.b.now a.trace.now).table) e,
    )
