-- Success alone has the status 0.
use Prim.Native.Nat.{ℕ}
use mathlib.Core.Path.{◌≡◌}
use native.Mathlib.Omega.{arith}
use Rattle.outcome.specs.declared.Status.{Status}
use Rattle.outcome.specs.declared.Status.TheVariants.{NotFound, Exists, TooLarge, Invalid, NotStored, NotNumeric, NotMyVbucket, UnknownCommand, OutOfMemory, NotSupported, Internal}
use Rattle.outcome.specs.Outcome.{status_number}

pub no-success : (s : Status) → status_number s ≡ 0 → ⊥
no-success NotFound z = omega arith
no-success Exists z = omega arith
no-success TooLarge z = omega arith
no-success Invalid z = omega arith
no-success NotStored z = omega arith
no-success NotNumeric z = omega arith
no-success NotMyVbucket z = omega arith
no-success UnknownCommand z = omega arith
no-success OutOfMemory z = omega arith
no-success NotSupported z = omega arith
no-success Internal z = omega arith
