-- Each turn has a value that one digit more keeps under 100,000, or is the last; what is left says what all of the text says.
use Rattle.std.proofs.Common.{◌≡◌, ◌<◌, drop}
use Rattle.vector_text.specs.Numbers.{leading_value, leading_left}
use Rattle.vector_text.proofs.numbers.leading.Given as goal

abbrev pub invariant-loop-i : goal.invariant-loop-i
invariant-loop-i l = record {
  small : l.value < 100000;
  same_value : leading_value l.value (drop l.i l.s) ≡ leading_value 0 l.s;
  same_left : leading_left l.value (drop l.i l.s) ≡ leading_left 0 l.s;
}
