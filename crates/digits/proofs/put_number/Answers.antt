use Rattle.digits.proofs.DecimalLaws.{digits-most}
use native.Mathlib.Omega.{arith}
use borrow.Author.Tests.{le-leb, lt-leb}
use mathlib.Core.Path.{refl, ◌∙◌}
use Rattle.digits.proofs.put_number.Goals as goal

pub returns-then-out-lt20 : goal.returns-then-out-lt20
returns-then-out-lt20 c = rw (lt-leb _ _ c.if-out-lt20.true) (refl, refl)

pub put_digits-requires : goal.put_digits-requires
put_digits-requires c = omega (arith, digits-most c.args.n, c.if-out-lt20.false)

pub returns : goal.returns
returns c = rw (le-leb _ _ c.if-out-lt20.false) (c.put_digits.ensures.0 ∙ omega arith, c.put_digits.ensures.1)
