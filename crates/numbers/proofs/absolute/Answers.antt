use Rattle.numbers.specs.Expiry.{absolute}
use Rattle.numbers.proofs.absolute.Goals as goal

pub returns-then-expiry : goal.returns-then-expiry
unfolding absolute
returns-then-expiry c = rw c.if-expiry.true

pub returns : goal.returns
unfolding absolute
returns c = rw c.if-expiry.false c.saturating_add.ensures
