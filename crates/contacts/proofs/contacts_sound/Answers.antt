use mathlib.Core.Path.{ap, ◌∙◌}
use Rattle.engine.specs.declared.Config.{Config}
use Rattle.engines.specs.Damage.{sound_by}
use Rattle.contacts.proofs.contacts_sound.Goals as goal

pub returns : goal.returns
returns c =
    let a = c.args in
    c.is_sound.ensures ∙ ap (λ (k : Config). sound_by k a.b.now) c.config_for.ensures
