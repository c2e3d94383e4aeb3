use Rattle.step.proofs.Storing.{storing, read_back}
use Rattle.digits.specs.Decimal.{digits}
use mathlib.Core.Path.{ap, ◌∙◌}
use Rattle.step.proofs.change.store_digits.Goals as goal

pub returns : goal.returns
returns c =
    let a = c.args in
    let text = read_back _ (digits a.n) _ _ _ c.put_number-k.ensures.0 c.put_number-k.ensures.1 c.part.ensures in
    c.store.ensures ∙ ap (storing a.config a.b.now a.l a.key.now a.m) text
