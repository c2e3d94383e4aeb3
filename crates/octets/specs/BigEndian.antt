-- Big-endian numbers of any width: the first byte is the highest.
use Rattle.std.specs.Prelude.{ℕ, zero, suc, ◌+◌, ◌*◌, ◌/◌, ◌%◌, List, [], ◌∷◌, ◌++◌}
use Rattle.octets.specs.Parts.{part}

-- the number that a list of bytes spells, after a number that was read before it
unfoldable pub be_from : ℕ → List ℕ → ℕ
be_from before [] = before
be_from before (x ∷ xs) = be_from (before * 256 + x) xs

-- the number that a list of bytes spells
unfoldable pub be : List ℕ → ℕ
unfolding be_from
be xs = be_from 0 xs

-- the number at a place, n bytes wide
abbrev pub num : List ℕ → ℕ → ℕ → ℕ
num s at n = be (part s at n)

-- the n bytes that spell a number, or its n lowest ones
unfoldable pub bytes_of : ℕ → ℕ → List ℕ
bytes_of zero v = []
bytes_of (suc n) v = bytes_of n (v / 256) ++ (v % 256 ∷ [])
