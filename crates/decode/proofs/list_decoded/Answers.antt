use mathlib.Core.Path.{sym, ◌∙◌}
use borrow.Author.Tests.{eq-eqb, ne_eqb}
use Rattle.decode.specs.Decode.{list_decoded}
use Rattle.decode.proofs.list_decoded.Goals as goal

pub returns-then-count-eq0 : goal.returns-then-count-eq0
unfolding list_decoded
returns-then-count-eq0 g c = rw (eq-eqb _ _ (sym c.count_of-count.ensures ∙ c.if-count-eq0.true))

pub returns : goal.returns
unfolding list_decoded
returns g c =
    let e = c.count_of-count.ensures in
    simp (ne_eqb _ _ (λ z. c.if-count-eq0.false (e ∙ z)), c.instruction_with.ensures, e)
