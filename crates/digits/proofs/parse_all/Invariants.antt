use Prim.Native.Nat.{◌<◌, ◌^◌}
use mathlib.Core.Path.{◌≡◌}
use lib.ListN.{drop}
use Rattle.digits.specs.Decimal.{number_from}
use Rattle.digits.proofs.parse_all.Given as goal

abbrev pub invariant-loop-c : goal.invariant-loop-c
invariant-loop-c l = (l.number < 2 ^ 64) × (number_from l.number (drop l.c-index l.s) ≡ number_from 0 l.s)
