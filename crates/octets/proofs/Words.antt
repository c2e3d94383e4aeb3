-- Laws of specs/Words.antt.
use native.Mathlib.Omega.{arith}
use native.Mathlib.Nat.{mul_assoc, pow-succ'}
use mathlib.Core.Path.{◌≡◌, sym, ap, ◌∙◌}
use mathlib.Core.Bool.{false}
use mathlib.Core.List.{List, [], ◌∷◌, ◌++◌}
use Prim.Native.Nat.{ℕ, suc, ◌+◌, ◌*◌, ◌^◌, ◌≤◌, ◌<◌}
use lib.Dec.{leb}
use lib.ListN.{length, get_or, take, drop, length-drop}
use lib.Seq.{drop-cons, take_all}
use borrow.Author.Tests.{le-leb, lt-leb}
use Rattle.std.specs.Array.{IsFirstChunk}
use Rattle.std.specs.Int.{from_le_bytes, w64}
use Rattle.octets.specs.Parts.{part}
use Rattle.octets.specs.Words.{little, word_at}
use Rattle.octets.proofs.Lists.{glue, part_length}

pub word-there : (s : List ℕ) (at : ℕ) → at + 8 ≤ length s → word_at s at ≡ little (part s at 8)
unfolding word_at
word-there s at h = rw (le-leb (at + 8) (length s) h)

pub word_none : (s : List ℕ) (at : ℕ) → leb (at + 8) (length s) ≡ false → word_at s at ≡ 0
unfolding word_at
word_none s at e = rw e

little-append : (xs ys : List ℕ) → little (xs ++ ys) ≡ little xs + 256 ^ length xs * little ys
unfolding little
little-append [] ys = omega arith
little-append (x ∷ xs) ys =
    let e : 256 ^ suc (length xs) * little ys ≡ 256 * (256 ^ length xs * little ys) = rw pow-succ' (mul_assoc 256 (256 ^ length xs) (little ys)) in
    rw (little-append xs ys, e) (omega arith)

-- a number of m + n bytes, by its first m bytes and the n after them: every width is read by this law
pub little-split : (s : List ℕ) (at m n : ℕ) → at + m ≤ length s → little (part s at (m + n)) ≡ little (part s at m) + 256 ^ m * little (part s (at + m) n)
little-split s at m n h = ap little (sym (glue s at m n)) ∙ little-append (part s at m) (part s (at + m) n) ∙ rw (part_length s at m h)

-- one byte, and those after it
little-suc : (s : List ℕ) (at n : ℕ) → at < length s → little (part s at (1 + n)) ≡ get_or s at 0 + 256 * little (part s (at + 1) n)
unfolding little
little-suc s at n h = little-split s at 1 n (omega arith) ∙ rw (drop-cons s at 0 h) (omega arith)

-- std's number of eight bytes
pub from-le : (ys : List ℕ) → length ys ≡ 8 → from_le_bytes w64 ys ≡ little ys
unfolding little
from-le ys h =
    let a = little-suc ys 0 7 (omega arith) in
    let b = little-suc ys 1 6 (omega arith) in
    let c = little-suc ys 2 5 (omega arith) in
    let d = little-suc ys 3 4 (omega arith) in
    let e = little-suc ys 4 3 (omega arith) in
    let f = little-suc ys 5 2 (omega arith) in
    let g = little-suc ys 6 1 (omega arith) in
    let k = little-suc ys 7 0 (omega arith) in
    let sum : from_le_bytes w64 ys ≡ little (part ys 0 8) = omega (arith, a, b, c, d, e, f, g, k) in
    sum ∙ ap little (take_all 8 ys (omega arith))

-- the first eight bytes from a place on, as an array
pub word-first : (s r ys : List ℕ) (at n : ℕ) → r ≡ drop at s → IsFirstChunk r ys 8 → n ≡ from_le_bytes w64 ys → n ≡ word_at s at
word-first s r ys at n e f p =
    let h : at + 8 ≤ length s = omega (arith, f.enough, ap length e, length-drop at s) in
    let q : ys ≡ part s at 8 = f.same ∙ ap (take 8) e in
    p ∙ from-le ys (ap length q ∙ part_length s at 8 h) ∙ ap little q ∙ sym (word-there s at h)

pub word-short : (s r : List ℕ) (at : ℕ) → r ≡ drop at s → length r < 8 → 0 ≡ word_at s at
word-short s r at e h = sym (word_none s at (lt-leb (at + 8) (length s) (omega (arith, ap length e, length-drop at s))))
