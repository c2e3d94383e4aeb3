-- For the code alone: eight bytes as one number, the first byte the lowest, as the machine loads them. Only speed hangs on it.
use Rattle.std.specs.Prelude.{ℕ, ◌+◌, ◌*◌, List, [], ◌∷◌, cond, length, leb}
use Rattle.octets.specs.Parts.{part}

-- the number that a list of bytes spells from its last byte to its first
unfoldable pub little : List ℕ → ℕ
little [] = 0
little (x ∷ xs) = x + 256 * little xs

-- the eight bytes at a place, 0 where they are not all there
unfoldable pub word_at : List ℕ → ℕ → ℕ
unfolding little
word_at s at = cond (leb (at + 8) (length s)) (little (part s at 8)) 0
