-- For the code alone: a number that equal keys share. It says nothing of the table: that equal keys have equal fingerprints holds of any function of the key, and this one is quick and seldom agrees on different keys.
use Rattle.std.specs.Prelude.{ℕ, zero, suc, ◌+◌, ◌-◌, ◌*◌, ◌/◌, ◌%◌, ◌^◌, Bool, false, cond, ◌||◌, List, [], ◌∷◌, length, drop, ◌==◌, nat_le, nat_lt}
use Rattle.octets.specs.Parts.{part}
use Rattle.octets.specs.BigEndian.{num}
use Rattle.octets.specs.Words.{word_at}
use Rattle.fingerprint.specs.declared.Lane.{Lane}

-- the 64 bits of p turned by five
unfoldable pub turned : ℕ → ℕ
turned p = p % 2 ^ 59 * 32 + p / 2 ^ 59

-- p turned, and w added, without the carry
unfoldable pub mixed : ℕ → ℕ → ℕ
unfolding turned
mixed p w = (turned p + w) % 2 ^ 64

-- a lane of words is their sum and the sum of what that was after each of them, by which a word counts by its place too
-- a lane of one word
unfoldable pub lane_of : ℕ → Lane
lane_of w = record { words = w; sums = w }

-- a lane with one word more, without the carries
unfoldable pub lane_with : Lane → ℕ → Lane
lane_with l w = record { words = (l.words + w) % 2 ^ 64; sums = (l.sums + (l.words + w) % 2 ^ 64) % 2 ^ 64 }

-- two lanes as one number
unfoldable pub both_lanes : Lane → Lane → ℕ
unfolding mixed
both_lanes a b = mixed (mixed a.sums a.words) (mixed b.sums b.words)

-- two lanes over n steps of sixteen bytes each: one has the first word of every step, the other the second
unfoldable pub lanes_over : ℕ → Lane → Lane → List ℕ → ℕ
unfolding lane_with both_lanes word_at
lanes_over zero a b key = both_lanes a b
lanes_over (suc n) a b key = lanes_over n (lane_with a (word_at (part key 0 16) 0)) (lane_with b (word_at (part key 0 16) 8)) (drop 16 key)

-- the last sixteen bytes, and every sixteen from the front until those are reached
unfoldable pub lanes_all : List ℕ → ℕ
unfolding lane_of lanes_over word_at
lanes_all key = let tail = drop (length key - 16) key in lanes_over ((length key - 1) / 16) (lane_of (word_at tail 0)) (lane_of (word_at tail 8)) key

-- the two halves added, without the carry
unfoldable pub folded : ℕ → ℕ
folded p = (p / 2 ^ 32 + p % 2 ^ 32) % 2 ^ 32

-- a short key is one number, one of nine to fifteen bytes two that overlap
unfoldable pub fingerprint : List ℕ → ℕ
unfolding mixed word_at lanes_all folded
fingerprint key = folded (cond (nat_le (length key) 8) (num key 0 8) (cond (nat_lt (length key) 16) (mixed (word_at key 0) (word_at key (length key - 8))) (lanes_all key)))

-- which of 1,024 buckets a fingerprint falls in: the ten bits of the product that hang on the most bits of p
unfoldable pub bucket_of : ℕ → ℕ
bucket_of p = p * 2654435761 / 2 ^ 22 % 1024

unfoldable pub print_among : ℕ → List ℕ → Bool
print_among p [] = false
print_among p (q ∷ qs) = q == p || print_among p qs
