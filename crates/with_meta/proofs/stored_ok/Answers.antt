use Prim.Native.Nat.{◌<◌}
use native.Mathlib.Omega.{arith}
use mathlib.Core.Bool.{and-false}
use lib.ListN.{length}
use borrow.Author.Tests.{lt-leb}
use Rattle.with_meta.specs.FieldRules.{with_meta_ok}
use Rattle.with_meta.proofs.stored_ok.Goals as goal

pub returns-in_default : goal.returns-in_default
unfolding with_meta_ok
returns-in_default c = rw c.in_default.is (simp (and-false))

pub returns-in_default-checked_sub : goal.returns-in_default-checked_sub
unfolding with_meta_ok
returns-in_default-checked_sub c =
    let long : length c.args.value.now < c.args.w.section = omega (arith, c.in_default-checked_sub.ensures) in
    rw (lt-leb _ _ long)
