-- Decimal numbers as bytes: "Stored as decimal without leading zeros", and "1 to 20 decimal digits of a number under 2^64".
use Rattle.std.specs.Prelude.{ℕ, zero, suc, ◌+◌, ◌-◌, ◌*◌, ◌/◌, ◌%◌, ◌^◌, Bool, true, ◌&&◌, cond, List, [], ◌∷◌, ◌++◌, ltb, leb, length, Option, Some, None}

-- the digits of n in at most k places, without leading zeros; 48 is the byte of 0
unfoldable pub digits_in : ℕ → ℕ → List ℕ
digits_in zero n = []
digits_in (suc k) n = cond (ltb n 10) ((48 + n) ∷ []) (digits_in k (n / 10) ++ ((48 + n % 10) ∷ []))

-- the digits of a number under 2^64, which has at most 20
unfoldable pub digits : ℕ → List ℕ
unfolding digits_in
digits n = digits_in 20 n

-- the number that digits say after the number a
unfoldable pub value_from : ℕ → List ℕ → ℕ
value_from a [] = a
value_from a (c ∷ cs) = value_from (a * 10 + (c - 48)) cs

unfoldable pub is_digit : ℕ → Bool
is_digit c = leb 48 c && ltb c 58

unfoldable pub all_digits : List ℕ → Bool
unfolding is_digit
all_digits [] = true
all_digits (c ∷ cs) = is_digit c && all_digits cs

-- digits after the number a, where they say a number under 2^64
unfoldable pub number_from : ℕ → List ℕ → Option ℕ
unfolding all_digits value_from
number_from a cs = cond (all_digits cs && ltb (value_from a cs) (2 ^ 64)) (Some (value_from a cs)) None

unfoldable pub number_of : List ℕ → Option ℕ
unfolding number_from
number_of cs = cond (leb 1 (length cs) && leb (length cs) 20) (number_from 0 cs) None
