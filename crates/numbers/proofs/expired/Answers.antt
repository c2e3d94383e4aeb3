use Rattle.std.proofs.Common.{ap, ◌∙◌}
use Rattle.numbers.specs.Expiry.{is_past, expired}
use Rattle.numbers.proofs.expired.Goals as goal

pub returns : goal.returns
unfolding expired
returns c = c.is_past.ensures ∙ ap is_past c.seconds_left.ensures
