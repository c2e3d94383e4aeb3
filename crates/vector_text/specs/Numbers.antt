-- What decimal digits say.
use Rattle.std.specs.Prelude.{ℕ, ◌+◌, ◌-◌, ◌*◌, Bool, not, ◌&&◌, ◌||◌, cond, List, [], ◌∷◌, nat_le}

-- a number is left at what is no digit, and from 10,000 on
abbrev pub stops : ℕ → ℕ → Bool
stops n c = nat_le 10000 n || not (nat_le 48 c && nat_le c 57)

-- the number that the digits in front say after the number n, and what follows them
abbrev pub leading_value : ℕ → List ℕ → ℕ
leading_value n [] = n
leading_value n (c ∷ cs) = cond (stops n c) n (leading_value (n * 10 + (c - 48)) cs)

abbrev pub leading_left : ℕ → List ℕ → List ℕ
leading_left n [] = []
leading_left n (c ∷ cs) = cond (stops n c) (c ∷ cs) (leading_left (n * 10 + (c - 48)) cs)
