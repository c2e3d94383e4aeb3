-- Laws of specs/Parts.antt: lists of bytes, parts of a list, and writes over a part.
use native.Mathlib.Omega.{arith}
use native.Mathlib.Numerals.{add-one}
use native.Mathlib.Nat.{zero-add, add-zero, add-suc, add_assoc}
use mathlib.Core.Path.{◌≡◌, sym, ap, ◌∙◌}
use mathlib.Core.Bool.{Bool, true, false}
use mathlib.Core.List.{List, [], ◌∷◌, ◌++◌, append_assoc}
use Prim.Native.Nat.{ℕ, zero, suc, ◌+◌, ◌-◌, ◌≤◌, ◌<◌, min}
use lib.Dec.{leb}
use lib.ListN.{length, take, drop, get_or, set, replicate, length-append, length-take, length-drop, length-replicate, take-append-drop, replicate-append-replicate}
use lib.Seq.{take_all, take_at, drop_at, drop-cons, drop-drop, take-add, get_or-drop, set_at, set_split, take-set-le, take-append-add, drop-append-add, take-append-le, drop-append-le, length-take-le}
use borrow.Author.Tests.{le-leb, lt-leb, leb-true, leb-false}
use Rattle.octets.specs.Parts.{Bytes, part, pasted, written}
use Rattle.octets.proofs.Choices.{cases}

pub bytes_drop : (n : ℕ) (xs : List ℕ) → Bytes xs → Bytes (drop n xs)
bytes_drop n xs b k = rw get_or-drop (b (n + k))

pub bytes_take : (n : ℕ) (xs : List ℕ) → Bytes xs → Bytes (take n xs)
bytes_take zero xs b k = omega arith
bytes_take (suc n) [] b k = omega arith
bytes_take (suc n) (x ∷ xs) b zero = b 0
bytes_take (suc n) (x ∷ xs) b (suc k) = bytes_take n xs (λ j. b (suc j)) k

pub bytes-part : (s : List ℕ) (at n : ℕ) → Bytes s → Bytes (part s at n)
bytes-part s at n b = bytes_take n (drop at s) (bytes_drop at s b)

pub bytes-cons : (x : ℕ) (xs : List ℕ) → x < 256 → Bytes xs → Bytes (x ∷ xs)
bytes-cons x xs h b zero = h
bytes-cons x xs h b (suc k) = b k

pub bytes-append : (xs ys : List ℕ) → Bytes xs → Bytes ys → Bytes (xs ++ ys)
bytes-append [] ys b d k = d k
bytes-append (x ∷ xs) ys b d zero = b 0
bytes-append (x ∷ xs) ys b d (suc k) = bytes-append xs ys (λ j. b (suc j)) d k

module _ (s : List ℕ) (at : ℕ) where
  pub part_length : (n : ℕ) → at + n ≤ length s → length (part s at n) ≡ n
  part_length n h = simp (length-take, length-drop) (omega arith)

  pub part-most : (n : ℕ) → length (part s at n) ≤ n
  part-most n = simp (length-take, length-drop) (omega arith)

  pub take_rest : take (length s - at) (drop at s) ≡ drop at s
  take_rest = take_all (length s - at) (drop at s) (simp length-drop (omega arith))

  -- two parts, one after the other
  pub glue : (n m : ℕ) → part s at n ++ part s (at + n) m ≡ part s at (n + m)
  glue n m = rw (← drop-drop n at s) (sym (take-add n m (drop at s)))

  pub glue-rest : (n : ℕ) → part s at n ++ drop (at + n) s ≡ drop at s
  glue-rest n = rw (← drop-drop n at s) (take-append-drop n (drop at s))

drop_past : (q r : List ℕ) (n m : ℕ) → length q ≡ n → drop (n + m) (q ++ r) ≡ drop m r
drop_past q r n m e = rw (← e) (drop-append-add q r m)

pub drop-set : (s : List ℕ) (i v : ℕ) → i < length s → drop i (set s i v) ≡ v ∷ drop (suc i) s
drop-set s i v h = rw (set_split s i v h) (drop_at (take i s) (v ∷ drop (suc i) s) i (length-take-le i s (omega arith)))

module _ (s : List ℕ) (at : ℕ) where
  pub pasted-none : at ≤ length s → pasted s at [] ≡ s
  unfolding pasted
  pasted-none h = rw add-zero (take-append-drop at s)

  pub length-pasted : (xs : List ℕ) → at + length xs ≤ length s → length (pasted s at xs) ≡ length s
  unfolding pasted
  length-pasted xs h = simp (length-append, length-drop, length-take) (omega arith)

  -- one byte more, at the end of what is written
  pub pasted-push : (xs : List ℕ) (v : ℕ) → at + length xs < length s → set (pasted s at xs) (at + length xs) v ≡ pasted s at (xs ++ (v ∷ []))
  unfolding pasted
  pasted-push xs v h =
      rw (← append_assoc (take at s) xs (drop (at + length xs) s), drop-cons s (at + length xs) 0 h)
      (set_at (take at s ++ xs) _ _ v (at + length xs) (simp (length-append, length-take) (omega arith))
      ∙ simp (append_assoc, length-append, add-suc, add-one))

  -- one byte less is left to write, where its last is stored first
  pub pasted-last : (xs : List ℕ) (v : ℕ) → at + length xs < length s → pasted s at (xs ++ (v ∷ [])) ≡ pasted (set s (at + length xs) v) at xs
  unfolding pasted
  pasted-last xs v h = rw (take-set-le at s (at + length xs) v (omega arith), drop-set s (at + length xs) v h) (simp (append_assoc, length-append, add-suc, add-one))

  -- two writes one after the other
  pub pasted-on : (xs ys : List ℕ) → at + length xs + length ys ≤ length s → pasted (pasted s at xs) (at + length xs) ys ≡ pasted s at (xs ++ ys)
  unfolding pasted
  pasted-on xs ys h =
      let l : length (take at s ++ xs) ≡ at + length xs = simp (length-append, length-take) (omega arith) in
      rw (
        ← append_assoc (take at s) xs (drop (at + length xs) s),
        take_at (take at s ++ xs) (drop (at + length xs) s) (at + length xs) l,
        drop_past
            (take at s ++ xs) (drop (at + length xs) s) (at + length xs) (length ys) l,
      )
      (simp (append_assoc, length-append, drop-drop, add_assoc))

  pub pasted-self : (n : ℕ) → at + n ≤ length s → s ≡ pasted s at (part s at n)
  unfolding pasted
  pasted-self n h = rw (part_length s at n h, glue-rest s at n) (sym (take-append-drop at s))

  -- a write over one that is not longer
  pub pasted-twice : (xs ys : List ℕ) → length xs ≤ length ys → at + length ys ≤ length s → pasted (pasted s at xs) at ys ≡ pasted s at ys
  unfolding pasted
  pasted-twice xs ys h k =
      let l : length (take at s ++ xs) ≡ at + length xs = simp (length-append, length-take) (omega arith) in
      let e : at + length ys ≡ at + length xs + (length ys - length xs) = omega arith in
      let d : drop (at + length ys) (take at s ++ (xs ++ drop (at + length xs) s)) ≡ drop (at + length ys) s =
      rw (e, ← append_assoc (take at s) xs (drop (at + length xs) s), drop_past (take at s ++ xs) (drop (at + length xs) s) (at + length xs) (length ys - length xs) l)
      (drop-drop (length ys - length xs) (at + length xs) s) in
      rw (take_at (take at s) (xs ++ drop (at + length xs) s) at (length-take-le at s (omega arith)), d)

  pub zero_more : (i : ℕ) → at + i < length s → set (pasted s at (replicate i 0)) (at + i) 0 ≡ pasted s at (replicate (i + 1) 0)
  zero_more i k =
      let e : length (replicate {A = ℕ} i 0) ≡ i = length-replicate i 0 in
      rw (← replicate-append-replicate {A = ℕ} i 1 0, ← pasted-push (replicate i 0) 0 (omega arith), e)

-- two parts that cover what is written
pub pasted-cover : (s : List ℕ) (at : ℕ) (xs : List ℕ) (n m : ℕ) → m ≤ n → n ≤ length xs → at + length xs ≤ length s
    → pasted (pasted s at (take n xs)) (at + m) (drop m xs) ≡ pasted s at xs
pasted-cover s at xs n m h k f =
    let l : length (take m xs) ≡ m = length-take-le m xs (omega arith) in
    let r : length (take (n - m) (drop m xs)) ≡ n - m = part_length xs m (n - m) (omega arith) in
    let q : length (drop m xs) ≡ length xs - m = length-drop m xs in
    let e : m + (n - m) ≡ n = omega arith in
    let first = pasted s at (take m xs) in
    let w : length first ≡ length s = length-pasted s at (take m xs) (omega arith) in
    let c : take n xs ≡ take m xs ++ take (n - m) (drop m xs) = ap (λ (j : ℕ). take j xs) (sym e) ∙ take-add m (n - m) xs in
    let on : (ys : List ℕ) → m + length ys ≤ length xs → pasted first (at + m) ys ≡ pasted s at (take m xs ++ ys) =
    λ ys j. ap (λ (i : ℕ). pasted first (at + i) ys) (sym l) ∙ pasted-on s at (take m xs) ys (omega arith) in
    ap (λ (t : List ℕ). pasted t (at + m) (drop m xs)) (ap (pasted s at) c ∙ sym (on (take (n - m) (drop m xs)) (omega arith)))
    ∙ pasted-twice first (at + m) (take (n - m) (drop m xs)) (drop m xs) (omega arith) (omega arith)
    ∙ on (drop m xs) (omega arith)
    ∙ ap (pasted s at) (take-append-drop m xs)

-- a write past a first part, and a write over it
pub pasted-skip : (p r : List ℕ) (n j : ℕ) (xs : List ℕ) → length p ≡ n → pasted (p ++ r) (n + j) xs ≡ p ++ pasted r j xs
unfolding pasted
pasted-skip p r n j xs e =
    rw (← e, take-append-add p r j, add_assoc (length p) j (length xs), drop-append-add p r (j + length xs), append_assoc)

pub pasted-over : (p r xs : List ℕ) → length p ≡ length xs → pasted (p ++ r) 0 xs ≡ xs ++ r
unfolding pasted
pasted-over p r xs e = rw (zero-add (length xs), drop_at p r (length xs) e)

-- a write before one that starts where it ends
pub pasted-before : (s : List ℕ) (at n : ℕ) (xs ys : List ℕ) → length xs ≡ n → at + n + length ys ≤ length s → pasted (pasted s (at + n) ys) at xs ≡ pasted s at (xs ++ ys)
unfolding pasted
pasted-before s at n xs ys e h =
    let rest = ys ++ drop (at + n + length ys) s in
    let l : length (part s at n) ≡ length xs = part_length s at n (omega arith) ∙ sym e in
    let split : take (at + n) s ++ rest ≡ take at s ++ (part s at n ++ rest) = rw (take-add at n s) (append_assoc (take at s) (part s at n) rest) in
    let j : length (xs ++ ys) ≡ n + length ys = length-append xs ys ∙ ap (λ (i : ℕ). i + length ys) e in
    ap (λ (t : List ℕ). pasted t at xs) split
    ∙ ap (λ (i : ℕ). pasted (take at s ++ (part s at n ++ rest)) i xs) (sym (add-zero at))
    ∙ pasted-skip (take at s) (part s at n ++ rest) at 0 xs (length-take-le at s (omega arith))
    ∙ ap (λ (t : List ℕ). take at s ++ t) (pasted-over (part s at n) rest xs l)
    ∙ rw (j, ← add_assoc at n (length ys), append_assoc)

-- what stands before a write
pub part-front : (p q : List ℕ) (k n : ℕ) → k + n ≤ length p → part (p ++ q) k n ≡ part p k n
part-front p q k n h = rw (drop-append-le k p q (omega arith), take-append-le n (drop k p) q (simp length-drop (omega arith)))

pub part-pasted : (s : List ℕ) (at : ℕ) (xs : List ℕ) (k n : ℕ) → k + n ≤ at → at ≤ length s → part (pasted s at xs) k n ≡ part s k n
unfolding pasted
part-pasted s at xs k n h l =
    let f : k + n ≤ length (take at s) = simp length-take (omega arith) in
    part-front (take at s) (xs ++ drop (at + length xs) s) k n f ∙ sym (part-front (take at s) (drop at s) k n f) ∙ ap (λ (t : List ℕ). part t k n) (take-append-drop at s)

-- one byte of a list, written to another place of it
pub pasted-one : (s : List ℕ) (at k : ℕ) → at < length s → k < length s → set s at (get_or s k 0) ≡ pasted s at (part s k 1)
unfolding pasted
pasted-one s at k h j = rw (drop-cons s k 0 j, add-one) (set_split s at (get_or s k 0) h)

module _ (s : List ℕ) (at : ℕ) (xs : List ℕ) where
  module _ (h : at + length xs ≤ length s) where
    head : length (take at s ++ xs) ≡ at + length xs
    head = simp (length-append, length-take) (omega arith)

    pub take-pasted : take (at + length xs) (pasted s at xs) ≡ take at s ++ xs
    unfolding pasted
    take-pasted = rw (← append_assoc (take at s) xs (drop (at + length xs) s)) (take_at (take at s ++ xs) (drop (at + length xs) s) (at + length xs) head)

    pub drop-pasted : drop (at + length xs) (pasted s at xs) ≡ drop (at + length xs) s
    unfolding pasted
    drop-pasted = rw (← append_assoc (take at s) xs (drop (at + length xs) s)) (drop_at (take at s ++ xs) (drop (at + length xs) s) (at + length xs) head)

    pub written-fits : written s at xs ≡ pasted s at xs
    unfolding written
    written-fits = rw (le-leb (at + length xs) (length s) h)

  pub written-not : length s < at + length xs → written s at xs ≡ s
  unfolding written
  written-not h = rw (lt-leb (at + length xs) (length s) h)

  pub length-written : length (written s at xs) ≡ length s
  length-written =
      cases (leb (at + length xs) (length s))
      (λ t. let h = leb-true (at + length xs) (length s) t in ap length (written-fits h) ∙ length-pasted s at xs h)
      (λ f. ap length (written-not (leb-false (at + length xs) (length s) f)))

pub written_none : (s : List ℕ) (at : ℕ) → at ≤ length s → written s at [] ≡ s
written_none s at h = written-fits s at [] (omega arith) ∙ pasted-none s at h

-- what a writer leaves, by its test r for n bytes' room
module _ (s : List ℕ) (at n : ℕ) (r : Bool) (e : r ≡ leb (at + n) (length s)) where
  pub room : r ≡ true → at + n ≤ length s
  room t = leb-true (at + n) (length s) (sym e ∙ t)

  pub put-there : (s' xs : List ℕ) → length xs ≡ n → r ≡ true → s' ≡ pasted s at xs → s' ≡ written s at xs
  put-there s' xs l t p = let h = room t in p ∙ sym (written-fits s at xs (omega arith))

  pub put-nowhere : (xs : List ℕ) → length xs ≡ n → r ≡ false → s ≡ written s at xs
  put-nowhere xs l f = let h = leb-false (at + n) (length s) (sym e ∙ f) in sym (written-not s at xs (omega arith))

-- a write after a write, as two calls state them
pub then : (s0 s1 s2 : List ℕ) (at m : ℕ) (xs ys : List ℕ) → s1 ≡ written s0 at xs → s2 ≡ written s1 m ys → m ≡ at + length xs → m + length ys ≤ length s0 → s2 ≡ written s0 at (xs ++ ys)
then s0 s1 s2 at m xs ys e f g h =
    let l : length s1 ≡ length s0 = ap length e ∙ length-written s0 at xs in
    let e' : s1 ≡ pasted s0 at xs = e ∙ written-fits s0 at xs (omega arith) in
    let f' : s2 ≡ pasted s1 m ys = f ∙ written-fits s1 m ys (omega arith) in
    f' ∙ rw (e', g, written-fits s0 at (xs ++ ys) (simp length-append (omega arith))) (pasted-on s0 at xs ys (omega arith))

pub then-two : (s0 s1 s2 s3 : List ℕ) (at m k : ℕ) (xs ys zs : List ℕ) → s1 ≡ written s0 at xs → s2 ≡ written s1 m ys → s3 ≡ written s2 k zs
    → m ≡ at + length xs → k ≡ m + length ys → k + length zs ≤ length s0 → s3 ≡ written s0 at (xs ++ (ys ++ zs))
then-two s0 s1 s2 s3 at m k xs ys zs e f g p q h =
    let d : s2 ≡ written s0 at (xs ++ ys) = then s0 s1 s2 at m xs ys e f p (omega arith) in
    rw append_assoc at (then s0 s2 s3 at k (xs ++ ys) zs d g (simp length-append (omega arith)) h)

-- a write at the start after a write behind it
pub before : (s0 s1 s2 : List ℕ) (n : ℕ) (xs ys : List ℕ) → s1 ≡ written s0 n xs → s2 ≡ written s1 0 ys → length ys ≡ n → n + length xs ≤ length s0 → s2 ≡ written s0 0 (ys ++ xs)
before s0 s1 s2 n xs ys e f g h =
    let l : length s1 ≡ length s0 = ap length e ∙ length-written s0 n xs in
    let e' : s1 ≡ pasted s0 n xs = e ∙ written-fits s0 n xs h in
    let f' : s2 ≡ pasted s1 0 ys = f ∙ written-fits s1 0 ys (omega arith) in
    f' ∙ ap (λ (s : List ℕ). pasted s 0 ys) (e' ∙ ap (λ (i : ℕ). pasted s0 i xs) (sym (zero-add n))) ∙ pasted-before s0 0 n ys xs g (omega arith)
    ∙ sym (written-fits s0 0 (ys ++ xs) (simp length-append (omega arith)))

-- bytes copied up in place, from the last to the first: the copy once so many are left, and one of c more
abbrev pub moved : List ℕ → ℕ → ℕ → ℕ → ℕ → List ℕ
moved s at n by left = pasted s (at + left + by) (part s (at + left) (n - left))

pub move-none : (s : List ℕ) (at n by : ℕ) → at + n + by ≤ length s → s ≡ moved s at n by n
move-none s at n by h = let z : n - n ≡ 0 = omega arith in rw z (sym (pasted-none s (at + n + by) h))

pub move-more : (s0 s s' : List ℕ) (at n by left c : ℕ) → c ≤ left → left ≤ n → at + n + by ≤ length s0
    → s ≡ moved s0 at n by left → s' ≡ pasted s (at + (left - c) + by) (part s (at + (left - c)) c) → s' ≡ moved s0 at n by (left - c)
move-more s0 s s' at n by left c h j f e g =
    let k = at + (left - c) in
    let p : at + left ≡ k + c = omega arith in
    let q : at + left + by ≡ k + by + c = omega arith in
    let m : n - (left - c) ≡ c + (n - left) = omega arith in
    let ys = part s0 (at + left) (n - left) in
    let y : length ys ≡ n - left = part_length s0 (at + left) (n - left) (omega arith) in
    let x : length (part s0 k c) ≡ c = part_length s0 k c (omega arith) in
    let r : part s k c ≡ part s0 k c = ap (λ (t : List ℕ). part t k c) e ∙ part-pasted s0 (at + left + by) ys k c (omega arith) (omega arith) in
    let w : part s0 k c ++ ys ≡ part s0 k (n - (left - c)) = ap (λ (i : ℕ). part s0 k c ++ part s0 i (n - left)) p ∙ glue s0 k c (n - left) ∙ ap (part s0 k) (sym m) in
    g ∙ (λ i. pasted (e i) (k + by) (r i)) ∙ ap (λ (i : ℕ). pasted (pasted s0 i ys) (k + by) (part s0 k c)) q
    ∙ pasted-before s0 (k + by) c (part s0 k c) ys x (omega arith) ∙ ap (pasted s0 (k + by)) w

pub move-fits : (s s' : List ℕ) (at n by : ℕ) → at + n + by ≤ length s → s' ≡ pasted s (at + by) (part s at n) → s' ≡ written s (at + by) (part s at n)
move-fits s s' at n by h e = let l = part_length s at n (omega arith) in e ∙ sym (written-fits s (at + by) (part s at n) (omega arith))

-- bytes that aren't all there, or for which there is no room
pub move-unfit : (s : List ℕ) (at n by : ℕ) → length s < at + n + by → s ≡ written s (at + by) (part s at n)
move-unfit s at n by h =
    let xs = part s at n in
    let l : length xs ≡ min n (length s - at) = simp (length-take, length-drop) in
    cases (leb (at + by + length xs) (length s))
    (λ t.
    let j = leb-true (at + by + length xs) (length s) t in
    let z : at + by ≡ at = omega arith in
    let all : xs ≡ part s at (length s - at) = take_all n (drop at s) (simp length-drop (omega arith)) ∙ sym (take_rest s at) in
    sym (written-fits s (at + by) xs j ∙ (λ i. pasted s (z i) (all i)) ∙ sym (pasted-self s at (length s - at) (omega arith))))
    (λ f. sym (written-not s (at + by) xs (leb-false (at + by + length xs) (length s) f)))
