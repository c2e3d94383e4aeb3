-- Keys written from byte 24 on, one after the other, as many as the count and the room let: what a loop over them goes by, wherever it reads them.
use native.Mathlib.Omega.{arith}
use native.Mathlib.Nat.{zero-add}
use mathlib.Core.Path.{◌≡◌, refl, sym, ap, ◌∙◌}
use mathlib.Core.Bool.{and-false}
use mathlib.Core.List.{List, [], ◌∷◌, ◌++◌}
use Prim.Native.Nat.{ℕ, ◌+◌, ◌-◌, ◌≤◌, ◌<◌}
use lib.Dec.{leb}
use lib.ListN.{length}
use borrow.Author.Tests.{lt-leb, leb-true, leb-false}
use Rattle.octets.specs.Parts.{written}
use Rattle.octets.specs.BigEndian.{bytes_of}
use Rattle.octets.proofs.Choices.{cases}
use Rattle.octets.proofs.Lists.{written_none, written-not, length-written, then-two}
use Rattle.octets.proofs.Numbers.{length-bytes}
use Rattle.document.specs.Documents.{Key}
use Rattle.listing.specs.Listing.{key_size, keys_bytes, taken}
use Rattle.listing.proofs.Taken.{bytes-more, taken-short, taken_next}

taken-full : (left room : ℕ) (k : Key) (ks : List Key) → room < key_size k → taken left room (k ∷ ks) ≡ []
taken-full left room k ks h = rw (lt-leb (key_size k) room h, and-false)

taken_none : (room : ℕ) (ks : List Key) → taken 0 room ks ≡ []
taken_none room [] = refl
taken_none room (k ∷ ks) = refl

pub nothing_written : (s : List ℕ) (at : ℕ) → written s at [] ≡ s
nothing_written s at =
    cases (leb at (length s))
    (λ t. written_none s at (leb-true at (length s) t))
    (λ f. written-not s at [] (omega (arith, leb-false at (length s) f)))

-- what is still to be written after size bytes
abbrev pub left_bytes : ℕ → ℕ → List Key → List ℕ
left_bytes left size ks = keys_bytes (taken left (1278 - size) ks)

-- a loop's state: what is written, with what is left, is all
pub record Partly (out₀ whole out : List ℕ) (left size : ℕ) (ks : List Key) : Type 0 where
  pub within : size ≤ 1278
  pub long : length out ≡ length out₀
  pub count : size + length (left_bytes left size ks) ≡ length whole
  pub bytes : written out (24 + size) (left_bytes left size ks) ≡ written out₀ 24 whole

pub begun : (out : List ℕ) (count : ℕ) (ks : List Key) → Partly out (keys_bytes (taken count 1278 ks)) out count 0 ks
begun out count ks = record { within = omega arith; long = refl; count = zero-add (length (left_bytes count 0 ks)); bytes = refl }

module _ (out₀ whole out : List ℕ) (left size : ℕ) (ks : List Key) (p : Partly out₀ whole out left size ks) where
  nothing_left : left_bytes left size ks ≡ [] → (size ≡ length whole) × (out ≡ written out₀ 24 whole)
  nothing_left z = (
    omega (arith, ap length z, p.count),
    sym (nothing_written out (24 + size)) ∙ ap (written out (24 + size)) (sym z) ∙ p.bytes,
  )

  -- the end of the count, and of the keys
  pub out-of-count : left ≡ 0 → (size ≡ length whole) × (out ≡ written out₀ 24 whole)
  out-of-count z = nothing_left (ap (λ (m : ℕ). left_bytes m size ks) z ∙ ap keys_bytes (taken_none (1278 - size) ks))

  pub out-of-keys : ks ≡ [] → (size ≡ length whole) × (out ≡ written out₀ 24 whole)
  out-of-keys e = nothing_left (ap (left_bytes left size) e)

  module _ (k : Key) (rest : List Key) (e : ks ≡ k ∷ rest) where
    -- a key that doesn't fit
    pub out-of-room : 1278 - size < 4 + length k → (size ≡ length whole) × (out ≡ written out₀ 24 whole)
    out-of-room h = nothing_left (ap keys_bytes (ap (taken left (1278 - size)) e ∙ taken-full left (1278 - size) k rest h))

    -- a key that is written: its length, and then its bytes
    module _ (room : 1302 ≤ length out₀) (some : 0 < left) (fits : 4 + length k ≤ 1278 - size) where
      abbrev size' : ℕ
      size' = size + (4 + length k)

      abbrev more : List ℕ
      more = left_bytes (left - 1) size' rest

      one_more : left_bytes left size ks ≡ bytes_of 4 (length k) ++ (k ++ more)
      one_more =
          let r : 1278 - size - (4 + length k) ≡ 1278 - size' = omega arith in
          ap keys_bytes (ap (taken left (1278 - size)) e ∙ taken_next left (1278 - size) k rest (omega arith) fits)
          ∙ ap (λ (n : ℕ). bytes_of 4 (length k) ++ (k ++ keys_bytes (taken (left - 1) n rest))) r

      pub one_written : (s1 s2 : List ℕ) → s1 ≡ written out (24 + size) (bytes_of 4 (length k)) → s2 ≡ written s1 (28 + size) k → Partly out₀ whole s2 (left - 1) size' rest
      one_written s1 s2 f g =
          let last = written s2 (24 + size') more in
          record {
            within = omega (arith, p.within);
            long = ap length g ∙ length-written s1 (28 + size) k ∙ ap length f ∙ length-written out (24 + size) (bytes_of 4 (length k)) ∙ p.long;
            count = omega (arith, bytes-more k more, ap length one_more, p.count);
            bytes =
                then-two out s1 s2 last (24 + size) (28 + size) (24 + size') (bytes_of 4 (length k)) k more f g refl
                (omega (arith, length-bytes 4 (length k))) (omega arith) (omega (arith, p.long, taken-short (left - 1) (1278 - size') rest))
                ∙ ap (written out (24 + size)) (sym one_more)
                ∙ p.bytes;
          }
