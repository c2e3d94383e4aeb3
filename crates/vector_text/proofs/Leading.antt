-- The number in front of a text, a byte after the other.
use Rattle.std.proofs.Common.{ℕ, ◌≡◌, ◌<◌, ◌+◌, ◌-◌, ◌*◌, cond, List, length, get_or, drop, drop-cons, add-one}
use Rattle.vector_text.specs.Numbers.{stops, leading_value, leading_left}

pub value_step : (s : List ℕ) (i n : ℕ) → i < length s
    → leading_value n (drop i s) ≡ cond (stops n (get_or s i 0)) n (leading_value (n * 10 + (get_or s i 0 - 48)) (drop (i + 1) s))
value_step s i n h = rw (add-one, drop-cons s i 0)

pub left_step : (s : List ℕ) (i n : ℕ) → i < length s
    → leading_left n (drop i s) ≡ cond (stops n (get_or s i 0)) (drop i s) (leading_left (n * 10 + (get_or s i 0 - 48)) (drop (i + 1) s))
left_step s i n h = rw (add-one, drop-cons s i 0)
