use mathlib.Core.Path.{◌≡◌}
use Rattle.numbers.specs.Order.{greater}
use Rattle.document.proofs.fn.accepted.is_none_or.Given as goal

abbrev pub ensures : goal.ensures
ensures l r = r ≡ greater l.m l.n l.d.numbers
