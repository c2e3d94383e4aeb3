use Rattle.owning.specs.Owner.{size_of}
use mathlib.Core.Bool.{and-false}
use borrow.Author.Tests.{lt-leb, le-leb}
use Rattle.owner.proofs.size.Goals as goal

pub returns-then-rows-lt1 : goal.returns-then-rows-lt1
unfolding size_of
returns-then-rows-lt1 c = rw (lt-leb 1 c.args.rows c.if-rows-lt1.true)

pub returns-then-rows-gt256 : goal.returns-then-rows-gt256
unfolding size_of
returns-then-rows-gt256 c = rw (lt-leb c.args.rows 256 c.if-rows-gt256.true, and-false)

pub returns : goal.returns
unfolding size_of
returns c = rw (le-leb 1 c.args.rows c.if-rows-lt1.false, le-leb c.args.rows 256 c.if-rows-gt256.false)
