-- `shape::shape_by` meets its contract: each arm is the operation of its number.
use borrow.Author.Rules.{rules}
use Rattle.shape.specs.Shapes.{commands}
use Rattle.shape.specs.Table.{operations, numbered}
use Rattle.shape.proofs.shape_by.Goals as goal

pub returns-in-2 : goal.returns-in-2
unfolding numbered operations commands
returns-in-2 c = rw c.in-2.is c.built.ensures

pub returns-in_default : goal.returns-in_default
unfolding numbered operations commands
returns-in_default c = rw c.refused-in_default.ensures (search rules)
