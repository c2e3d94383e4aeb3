use Rattle.numbers.specs.Order.{above, greater}
use Rattle.numbers.proofs.greater.Goals as goal

pub returns : goal.returns
unfolding greater above
returns c =
    let lead-here = c.lead in
    simp (
      c.above-2.ensures,
      c.above.ensures,
      lead-here.ensures,
      c.lead-2.ensures,
      c.second.ensures,
      c.second-2.ensures,
    )
