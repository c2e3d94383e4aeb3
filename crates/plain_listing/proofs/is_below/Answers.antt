use mathlib.Core.Path.{ap, ◌∙◌}
use mathlib.Core.Bool.{true, false}
use Rattle.std.specs.declared.cmp.Ordering.{Ordering}
use Rattle.keys.specs.Keys.{by_side}
use Rattle.keys.proofs.KeyLaws.{sides}
use Rattle.plain_listing.proofs.is_below.Goals as goal

pub returns : goal.returns
returns c =
    c.is_lt.ensures
    ∙ sides c.compare.result (λ l. rw l) (λ e. rw e) (λ g. rw g)
    ∙ ap (λ (o : Ordering). by_side o true false false) c.compare.ensures
