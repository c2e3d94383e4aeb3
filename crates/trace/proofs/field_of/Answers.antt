use native.Mathlib.Omega.{arith}
use Prim.Native.Nat.{ℕ, ◌+◌, ◌-◌, ◌≤◌, ◌<◌}
use mathlib.Core.Bool.{true, false}
use mathlib.Core.Path.{◌≡◌}
use lib.Dec.{ltb}
use borrow.Author.Tests.{le-ltb, lt-ltb}
use Rattle.trace.specs.Trace.{field_of}
use Rattle.trace.proofs.field_of.Goals as goal

-- the code subtracts where the definition adds
cut : (n len : ℕ) → 3 ≤ n → n - 3 < len → ltb n (3 + len) ≡ true
cut n len a b = lt-ltb n (3 + len) (omega (arith, a, b))

whole : (n len : ℕ) → 3 ≤ n → len ≤ n - 3 → ltb n (3 + len) ≡ false
whole n len a b = le-ltb n (3 + len) (omega (arith, a, b))

pub returns-then-s-lt-FRONT : goal.returns-then-s-lt-FRONT
unfolding field_of
returns-then-s-lt-FRONT c = simp (lt-ltb _ _ c.if-s-lt-FRONT.true)

pub returns-then-s-len : goal.returns-then-s-len
unfolding field_of
returns-then-s-len c =
    simp (le-ltb _ _ c.if-s-lt-FRONT.false, ← c.be16-len.ensures, cut _ _ c.if-s-lt-FRONT.false c.if-s-len.true)

pub returns : goal.returns
unfolding field_of
returns c =
    simp (le-ltb _ _ c.if-s-lt-FRONT.false, ← c.be16-len.ensures, whole _ _ c.if-s-lt-FRONT.false c.if-s-len.false, ← c.byte.ensures, c.field_by.ensures)
