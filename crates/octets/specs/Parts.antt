-- Parts of a list of bytes, and bytes written over a part of it.
use Rattle.std.specs.Prelude.{cond, ℕ, ◌+◌, ◌<◌, List, ◌++◌, length, take, drop, get_or, leb}

-- every element is a byte, as in every slice of bytes
abbrev pub Bytes : List ℕ → Type 0
Bytes xs = (k : ℕ) → get_or xs k 0 < 256

-- the n bytes from a place on, or as many of them as there are
abbrev pub part : List ℕ → ℕ → ℕ → List ℕ
part s at n = take n (drop at s)

-- s with xs in place of what stands there, from a place on
unfoldable pub pasted : List ℕ → ℕ → List ℕ → List ℕ
pasted s at xs = take at s ++ (xs ++ drop (at + length xs) s)

-- the same where xs fits, else s unchanged: what every writer leaves
unfoldable pub written : List ℕ → ℕ → List ℕ → List ℕ
unfolding pasted
written s at xs = cond (leb (at + length xs) (length s)) (pasted s at xs) s
