-- What is claimed of writing and reading a number, over the definitions that the contracts use. Proved in proofs/RoundTrip.antt.
use Rattle.std.specs.Prelude.{ℕ, ◌≤◌, ◌<◌, ◌^◌, ◌≡◌, length, get_or, Some}
use Rattle.digits.specs.Decimal.{digits, number_of}

-- the digits that are written for a number say it; they are 1 to 20, and the first of them is 0 (the byte 48) for the number 0 alone
pub record Says (n : ℕ) : Type 0 where
  pub read_back : number_of (digits n) ≡ Some n
  pub least : 1 ≤ length (digits n)
  pub most : length (digits n) ≤ 20
  pub leading : 0 < n → 48 < get_or (digits n) 0 0

abbrev pub WrittenSays : Type 0
WrittenSays = (n : ℕ) → n < 2 ^ 64 → Says n
