use Rattle.rows.specs.RowRules.{size_ok}
use native.Mathlib.Omega.{arith}
use borrow.Author.Tests.{le-leb, lt-leb}
use Rattle.rows.proofs.damage.size_ok.Goals as goal

pub returns-then-n-lt1 : goal.returns-then-n-lt1
unfolding size_ok
returns-then-n-lt1 c = simp (lt-leb _ _ c.if-n-lt1.true)

pub returns-then-n-gt256 : goal.returns-then-n-gt256
unfolding size_ok
returns-then-n-gt256 c = simp (le-leb _ _ c.if-n-lt1.false, lt-leb c.args.n 256 (omega (arith, c.if-n-gt256.true)))

pub returns : goal.returns
unfolding size_ok
returns c = simp (le-leb _ _ c.if-n-lt1.false, le-leb _ _ c.if-n-gt256.false)
