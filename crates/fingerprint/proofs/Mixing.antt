-- Laws of specs/Fingerprint.antt: the bits turned, the cases of a key's length, one step of sixteen bytes, and a fingerprint among others.
use Rattle.std.proofs.Common.{◌≡◌, ℕ, zero, suc, refl, [], ◌∷◌, take, ◌+◌, ◌-◌, ◌*◌, ◌/◌, ◌%◌, ◌^◌, ◌<◌, ◌≤◌, Bool, ◌||◌, eqb, List, length, get_or, drop, bit_or, sym, ap, ◌∙◌, div-lt_iff_lt-mul, arith, drop-drop, le-ltb, lt-ltb, le-leb}
use Rattle.std.specs.List.{list_any}
use Rattle.std.specs.Simd.{first_chunks}
use Rattle.std.proofs.lemmas.Nat.{or_shifted}
use Rattle.std.proofs.lemmas.List.{drop-take}
use lib.Seq.{take-take, length-take-le}
use borrow.Author.Tests.{lt-leb}
use Rattle.octets.specs.Parts.{part}
use Rattle.octets.specs.BigEndian.{num}
use Rattle.octets.specs.Words.{word_at}
use Rattle.fingerprint.specs.Fingerprint.{turned, mixed, lane_of, lane_with, both_lanes, lanes_over, lanes_all, folded, fingerprint, print_among}
use Rattle.fingerprint.specs.declared.Lane.{Lane}

-- the bits that go round stand where the others left zeros
pub round : (p : ℕ) → p < 2 ^ 64 → bit_or (p * 2 ^ 5 % 2 ^ 64) (p / 2 ^ 59) ≡ turned p
unfolding turned
round p h =
    let above : p * 2 ^ 5 % 2 ^ 64 ≡ p % 2 ^ 59 * 2 ^ 5 = omega arith in
    ap (λ (n : ℕ). bit_or n (p / 2 ^ 59)) above
    ∙ or_shifted (p % 2 ^ 59) 5 (p / 2 ^ 59) ((div-lt_iff_lt-mul {k = 2 ^ 59} (omega arith)).1 h)

module _ (key : List ℕ) where
  pub short : length key ≤ 8 → fingerprint key ≡ folded (num key 0 8)
  unfolding fingerprint
  short h = rw (le-leb (length key) 8 h)

  pub middle : 8 < length key → length key < 16 → fingerprint key ≡ folded (mixed (word_at key 0) (word_at key (length key - 8)))
  unfolding fingerprint
  middle h k = rw (lt-leb (length key) 8 h, lt-ltb (length key) 16 k)

-- what is left of a key before its last sixteen bytes, in steps of sixteen
abbrev pub left : List ℕ → ℕ → Lane → Lane → ℕ
left key at a b = lanes_over ((length key - 16 - at + 15) / 16) a b (drop at key)

pub first_step : (key : List ℕ) → 16 ≤ length key
    → fingerprint key ≡ folded (left key 0 (lane_of (word_at (drop (length key - 16) key) 0)) (lane_of (word_at (drop (length key - 16) key) 8)))
unfolding fingerprint lanes_all
first_step key h =
    let e : length key - 1 ≡ length key - 16 - 0 + 15 = omega arith in
    rw (lt-leb (length key) 8 (omega arith), le-ltb (length key) 16 h, e)

pub next-step : (key : List ℕ) (at : ℕ) (a b : Lane) → at < length key - 16
    → left key at a b ≡ left key (at + 16) (lane_with a (word_at (part key at 16) 0)) (lane_with b (word_at (part key at 16) 8))
unfolding lanes_over
next-step key at a b h =
    let e : (length key - 16 - at + 15) / 16 ≡ suc ((length key - 16 - (at + 16) + 15) / 16) = omega arith in
    ap (λ (n : ℕ). lanes_over n a b (drop at key)) e
    ∙ ap (lanes_over ((length key - 16 - (at + 16) + 15) / 16) (lane_with a (word_at (part key at 16) 0)) (lane_with b (word_at (part key at 16) 8))) (drop-drop 16 at key)

-- the steps of sixteen bytes, as arrays cut from all but the last byte
chunk-at : (n i : ℕ) (s : List ℕ) → i < n → get_or (first_chunks 16 n s) i [] ≡ part s (i * 16) 16
chunk-at zero i s h = absurd (omega arith)
chunk-at (suc n) zero s h = refl
chunk-at (suc n) (suc i) s h =
    let e : 16 + i * 16 ≡ suc i * 16 = omega arith in
    chunk-at n i (drop 16 s) (omega arith) ∙ ap (take 16) (drop-drop (i * 16) 16 s ∙ ap (λ (k : ℕ). drop k s) e)

part-of-take : (s : List ℕ) (k at n : ℕ) → at + n ≤ k → part (take k s) at n ≡ part s at n
part-of-take s k at n h =
    let e : at + (k - at) ≡ k = omega arith in
    ap (take n) (ap (λ (m : ℕ). drop at (take m s)) (sym e) ∙ drop-take at (k - at) s) ∙ take-take n (k - at) (drop at s) (omega arith)

module _ (key : List ℕ) (steps : List (List ℕ)) (front : steps ≡ first_chunks 16 (length (take (length key - 1) key) / 16) (take (length key - 1) key)) where
  pub step-at : (i : ℕ) → i < length steps → length steps ≡ length (take (length key - 1) key) / 16 → get_or steps i [] ≡ part key (i * 16) 16
  step-at i h l =
      let m : length (take (length key - 1) key) ≡ length key - 1 = length-take-le (length key - 1) key (omega arith) in
      ap (λ (cs : List (List ℕ)). get_or cs i []) front ∙ chunk-at _ i (take (length key - 1) key) (omega arith)
      ∙ part-of-take key (length key - 1) (i * 16) 16 (omega arith)

pub last_step : (key : List ℕ) (at : ℕ) (a b : Lane) → length key - 16 ≤ at → left key at a b ≡ both_lanes a b
unfolding lanes_over
last_step key at a b h = let e : (length key - 16 - at + 15) / 16 ≡ 0 = omega arith in ap (λ (n : ℕ). lanes_over n a b (drop at key)) e

-- std's test for an element
pub among-any : (p : ℕ) (qs : List ℕ) → list_any (λ q. eqb q p) qs ≡ print_among p qs
unfolding print_among
among-any p [] = refl
among-any p (q ∷ qs) = ap (λ (b : Bool). eqb q p || b) (among-any p qs)
