-- Laws of specs/BigEndian.antt, over the width.
use native.Mathlib.Omega.{arith}
use native.Mathlib.Numerals.{add-one}
use native.Mathlib.Nat.{zero-add, add-zero, pow-suc, pow-succ', pow-le-pow_right, mul_assoc, add-mul}
use mathlib.Core.Path.{◌≡◌, refl, sym, ap, ◌∙◌}
use mathlib.Core.List.{List, [], ◌∷◌, ◌++◌, append_assoc, append-nil}
use Prim.Native.Nat.{ℕ, zero, suc, ◌+◌, ◌-◌, ◌*◌, ◌/◌, ◌%◌, ◌^◌, ◌≤◌, ◌<◌}
use lib.ListN.{length, get_or, set, length-append}
use lib.Seq.{drop-cons}
use Rattle.octets.specs.Parts.{Bytes, part, pasted}
use Rattle.octets.specs.BigEndian.{be_from, be, num, bytes_of}
use Rattle.octets.proofs.Lists.{bytes-part, bytes-append, bytes-cons, glue, part_length, part-most, pasted-none, pasted-last}

-- a number of i bytes, with one byte more
pub be-bound : (v i x : ℕ) → v < 256 ^ i → x < 256 → v * 256 + x < 256 ^ (i + 1)
be-bound v i x h k = rw (add-one, pow-suc) (omega arith)

pub be-within : (v n m : ℕ) → v < 256 ^ n → n ≤ m → v < 256 ^ m
be-within v n m h k = omega (arith, pow-le-pow_right {n = 256} (omega arith) k)

-- eight bytes fit a u64
pub be-room : (v i x : ℕ) → v < 256 ^ i → i < 8 → x < 256 → v * 256 + x < 2 ^ 64
be-room v i x h k l = be-within (v * 256 + x) (i + 1) 8 (be-bound v i x h l) (omega arith)

-- a number after another stands as many bytes below it as it is wide
from-shift : (v : ℕ) (xs : List ℕ) → be_from v xs ≡ v * 256 ^ length xs + be xs
unfolding be be_from
from-shift v [] = omega arith
from-shift v (x ∷ xs) =
    let p = 256 ^ length xs in
    let e : v * (256 ^ suc (length xs)) ≡ v * 256 * p = ap (λ (n : ℕ). v * n) (pow-succ' 256 (length xs)) ∙ sym (mul_assoc v 256 p) in
    rw (from-shift (v * 256 + x) xs, from-shift (0 * 256 + x) xs, e, add-mul (v * 256) x p) (omega arith)

from-append : (v : ℕ) (xs ys : List ℕ) → be_from v (xs ++ ys) ≡ be_from (be_from v xs) ys
unfolding be_from
from-append v [] ys = refl
from-append v (x ∷ xs) ys = from-append (v * 256 + x) xs ys

be-append : (xs ys : List ℕ) → be (xs ++ ys) ≡ be xs * 256 ^ length ys + be ys
unfolding be
be-append xs ys = from-append 0 xs ys ∙ from-shift (be_from 0 xs) ys

-- a number of m + n bytes, by its first m bytes and the n after them: every width is read by this law
pub num-split : (s : List ℕ) (at m n : ℕ) → at + m + n ≤ length s → num s at (m + n) ≡ num s at m * 256 ^ n + num s (at + m) n
num-split s at m n h = ap be (sym (glue s at m n)) ∙ be-append (part s at m) (part s (at + m) n) ∙ rw (part_length s (at + m) n h)

-- one byte
num-one : (s : List ℕ) (at : ℕ) → at < length s → num s at 1 ≡ get_or s at 0
unfolding be be_from
num-one s at h = rw (drop-cons s at 0 h) (omega arith)

pub num-suc : (s : List ℕ) (at n : ℕ) → at + n < length s → num s at (n + 1) ≡ num s at n * 256 + get_or s (at + n) 0
num-suc s at n h = num-split s at n 1 (omega arith) ∙ rw (num-one s (at + n) h)

pub length-bytes : (n v : ℕ) → length (bytes_of n v) ≡ n
unfolding bytes_of
length-bytes zero v = refl
length-bytes (suc n) v = rw (length-append, length-bytes n (v / 256), add-one)

pub bytes-are-bytes : (n v : ℕ) → Bytes (bytes_of n v)
unfolding bytes_of
bytes-are-bytes zero v k = omega arith
bytes-are-bytes (suc n) v k = bytes-append (bytes_of n (v / 256)) (v % 256 ∷ []) (bytes-are-bytes n (v / 256)) (bytes-cons (v % 256) [] (omega arith) (λ k. omega arith)) k

-- a number that fits n bytes is read back from them
pub be-bytes : (n v : ℕ) → v < 256 ^ n → be (bytes_of n v) ≡ v
unfolding bytes_of be be_from
be-bytes zero v h = omega arith
be-bytes (suc n) v h =
    let h' : v < 256 ^ n * 256 = rw pow-suc at h in
    be-append (bytes_of n (v / 256)) (v % 256 ∷ []) ∙ rw (be-bytes n (v / 256) (omega arith)) (omega arith)

bytes-from : (m v : ℕ) (xs : List ℕ) → Bytes xs → bytes_of (m + length xs) (be_from v xs) ≡ bytes_of m v ++ xs
unfolding bytes_of be_from
bytes-from m v [] b = rw add-zero (sym (append-nil (bytes_of m v)))
bytes-from m v (x ∷ xs) b =
    let e : (v * 256 + x) / 256 ≡ v = omega (arith, b 0) in
    let f : (v * 256 + x) % 256 ≡ x = omega (arith, b 0) in
    let z : m + suc (length xs) ≡ suc m + length xs = omega arith in
    rw z (bytes-from (suc m) (v * 256 + x) xs (λ k. b (suc k)) ∙ rw (append_assoc, e, f))

-- the bytes of a number that was read are those that it was read from
pub bytes-be : (xs : List ℕ) → Bytes xs → bytes_of (length xs) (be xs) ≡ xs
unfolding bytes_of be
bytes-be xs b = rw zero-add at (bytes-from 0 0 xs b)

pub num-back : (s : List ℕ) (at n : ℕ) → Bytes s → at + n ≤ length s → bytes_of n (num s at n) ≡ part s at n
num-back s at n b h = rw (part_length s at n h) at (bytes-be (part s at n) (bytes-part s at n b))

from-below : (v i : ℕ) (xs : List ℕ) → Bytes xs → v < 256 ^ i → be_from v xs < 256 ^ (i + length xs)
unfolding be_from
from-below v i [] b h = rw add-zero h
from-below v i (x ∷ xs) b h =
    let z : i + suc (length xs) ≡ i + 1 + length xs = omega arith in
    rw z (from-below (v * 256 + x) (i + 1) xs (λ k. b (suc k)) (be-bound v i x h (b 0)))

pub be-below : (xs : List ℕ) → Bytes xs → be xs < 256 ^ length xs
unfolding be
be-below xs b = rw zero-add at (from-below 0 0 xs b (omega arith))

pub num-below : (s : List ℕ) (at n : ℕ) → Bytes s → num s at n < 256 ^ n
num-below s at n b = be-within (num s at n) (length (part s at n)) n (be-below (part s at n) (bytes-part s at n b)) (part-most s at n)

last-at : (s : List ℕ) (at j v : ℕ) → at + j < length s → pasted s at (bytes_of (suc j) v) ≡ pasted (set s (at + j) (v % 256)) at (bytes_of j (v / 256))
unfolding bytes_of
last-at s at j v h =
    let l : length (bytes_of j (v / 256)) ≡ j = length-bytes j (v / 256) in
    rw l at (pasted-last s at (bytes_of j (v / 256)) (v % 256) (omega arith))

-- where a number's bytes are written from the last to the first: one byte less is left
pub be-last : (s : List ℕ) (at k v : ℕ) → 0 < k → at + k ≤ length s → pasted s at (bytes_of k v) ≡ pasted (set s (at + (k - 1)) (v % 256)) at (bytes_of (k - 1) (v / 256))
be-last s at k v h l =
    let e : k ≡ suc (k - 1) = omega arith in
    ap (λ (m : ℕ). pasted s at (bytes_of m v)) e ∙ last-at s at (k - 1) v (omega arith)

pub be-done : (s : List ℕ) (at k v : ℕ) → k ≤ 0 → at ≤ length s → pasted s at (bytes_of k v) ≡ s
unfolding bytes_of
be-done s at k v h l =
    let z : k ≡ 0 = omega arith in
    rw z (pasted-none s at l)
