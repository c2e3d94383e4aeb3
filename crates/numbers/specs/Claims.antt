-- What is claimed of the published order, that in both modes it is a strict total order on the four numbers, and of the seconds left. Proved in proofs/OrderLaws.antt and proofs/LeftLaws.antt.
use Rattle.std.specs.Prelude.{◌≡◌, ℕ, ◌+◌, ◌^◌, ◌<◌, true, false, not, ◌&&◌, pos, ◌-ℤ◌, ◌==◌, ◌≢◌, nat_le, Some, None}
use Rattle.numbers.specs.Expiry.{seconds_left, seconds_in, expired}
use Rattle.numbers.specs.declared.Numbers.{Numbers}
use Rattle.numbers.specs.declared.Mode.{Mode}
use Rattle.numbers.specs.Order.{greater}

-- each number fits its bytes, as in every value of the declared type
pub record NumbersFit (n : Numbers) : Type 0 where
  pub flags : n.flags < 2 ^ 32
  pub expiry : n.expiry < 2 ^ 32
  pub revision : n.revision.0 < 2 ^ 64
  pub cas : n.cas.0 < 2 ^ 64

pub record StrictTotal (m : Mode) : Type 0 where
  pub irreflexive : (a : Numbers) → greater m a a ≡ false
  pub transitive : (a b c : Numbers) → greater m a b ≡ true → greater m b c ≡ true → greater m a c ≡ true
  pub total : (a b : Numbers) → greater m a b ≡ false → greater m b a ≡ false → a ≡ b

-- order 5: "expired means zero or less" is 01's "its expiry is not 0 and the clock is at or past it"
abbrev pub ExpiredSaid : Type 0
ExpiredSaid = (expiry clock : ℕ) → expired expiry clock ≡ (not (expiry == 0) && nat_le expiry clock)

-- the seconds left n seconds later are n less
abbrev pub RunsDown : Type 0
RunsDown = (expiry clock n : ℕ) → (expiry ≢ 0) → seconds_in (seconds_left expiry (clock + n)) ≡ seconds_in (seconds_left expiry clock) -ℤ pos n

-- "At the ends, expiry 4,294,967,295 at clock 0 gives 4,294,967,295, and expiry 1 at clock 4,294,967,295 gives -4,294,967,294."
pub record Ends : Type 0 where
  pub first : seconds_left 4294967295 0 ≡ Some (pos 4294967295)
  pub last : seconds_left 1 4294967295 ≡ Some (pos 0 -ℤ pos 4294967294)
  pub at-expiry : (expiry : ℕ) → (expiry ≢ 0) → seconds_left expiry expiry ≡ Some (pos 0)
  pub never : (clock : ℕ) → seconds_left 0 clock ≡ None
