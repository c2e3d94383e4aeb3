-- What a listing takes fits in its room, and is the front of the keys: what is left out begins where the count was reached or the next key would not fit.
use Prim.Native.Nat.{ℕ, ◌+◌, ◌-◌, ◌≤◌, ◌<◌}
use mathlib.Core.Path.{◌≡◌, refl, ap}
use mathlib.Core.Logic.{◌⊎◌, inl, inr}
use mathlib.Core.Bool.{false, cond, ◌&&◌}
use mathlib.Core.List.{List, [], ◌∷◌, ◌++◌}
use native.Mathlib.Omega.{arith}
use lib.Dec.{leb}
use lib.ListN.{length, length-append}
use borrow.Author.Tests.{leb-true, leb-false, le-leb}
use Rattle.octets.specs.BigEndian.{bytes_of}
use Rattle.octets.proofs.Choices.{cases, both}
use Rattle.octets.proofs.Numbers.{length-bytes}
use Rattle.document.specs.Documents.{Key, Entry}
use Rattle.listing.specs.Listing.{key_size, keys_bytes, taken, keys_from, listing}

-- how many bytes a key adds
pub bytes-more : (k : Key) (rest : List ℕ) → length (bytes_of 4 (length k) ++ (k ++ rest)) ≡ key_size k + length rest
bytes-more k rest =
    omega (arith, length-append (bytes_of 4 (length k)) (k ++ rest), length-append k rest, length-bytes 4 (length k))

pub taken-short : (count room : ℕ) (ks : List Key) → length (keys_bytes (taken count room ks)) ≤ room
taken-short count room [] = omega arith
taken-short count room (k ∷ ks) =
    cases (leb 1 count && leb (key_size k) room)
    (λ t.
    let f = leb-true (key_size k) room (both (leb 1 count) (leb (key_size k) room) t).1 in
    rw t (omega (arith, f, bytes-more k (keys_bytes (taken (count - 1) (room - key_size k) ks)), taken-short (count - 1) (room - key_size k) ks)))
    (λ t. rw t (omega arith))

pub listing-short : (docs : List Entry) (clock : ℕ) (start : Key) (count : ℕ) → length (listing docs clock start count) ≤ 1278
unfolding listing
listing-short docs clock start count = taken-short count 1278 (keys_from docs clock start)

-- ---- what is left out
abbrev pub left : ℕ → ℕ → List Key → List Key
left count room [] = []
left count room (k ∷ ks) = cond (leb 1 count && leb (key_size k) room) (left (count - 1) (room - key_size k) ks) (k ∷ ks)

pub taken-left : (count room : ℕ) (ks : List Key) → taken count room ks ++ left count room ks ≡ ks
taken-left count room [] = refl
taken-left count room (k ∷ ks) =
    cases (leb 1 count && leb (key_size k) room)
    (λ t. rw t (ap (λ (r : List Key). k ∷ r) (taken-left (count - 1) (room - key_size k) ks)))
    (λ f. rw f)

pub taken-few : (count room : ℕ) (ks : List Key) → length (taken count room ks) ≤ count
taken-few count room [] = omega arith
taken-few count room (k ∷ ks) =
    cases (leb 1 count && leb (key_size k) room)
    (λ t.
    let c = leb-true 1 count (both (leb 1 count) (leb (key_size k) room) t).0 in
    rw t (omega (arith, c, taken-few (count - 1) (room - key_size k) ks)))
    (λ f. rw f (omega arith))

-- why a key is the first left out
abbrev pub Stopped : ℕ → ℕ → List Key → Key → Type 0
Stopped count room ks c = (length ks ≡ count) ⊎ (room < length (keys_bytes ks) + key_size c)

stopped-here : (count room : ℕ) (k : Key) → (leb 1 count && leb (key_size k) room) ≡ false → Stopped count room [] k
stopped-here count room k f =
    cases (leb 1 count)
    (λ t. let g : leb (key_size k) room ≡ false = rw t at f in inr (omega (arith, leb-false (key_size k) room g)))
    (λ n. inl (omega (arith, leb-false 1 count n)))

stopped-next : (count room : ℕ) (k c : Key) (ks : List Key) → 1 ≤ count → key_size k ≤ room → Stopped (count - 1) (room - key_size k) ks c → Stopped count room (k ∷ ks) c
stopped-next count room k c ks h g (inl e) = inl (omega arith)
stopped-next count room k c ks h g (inr l) = inr (omega (arith, bytes-more k (keys_bytes ks)))

pub left-stopped : (count room : ℕ) (ks : List Key) (c : Key) (cs : List Key) → left count room ks ≡ c ∷ cs → Stopped count room (taken count room ks) c
left-stopped count room [] c cs e = let z : ◌≡◌ {A = ℕ} 0 1 = cc in absurd (omega arith)
left-stopped count room (k ∷ ks) c cs e =
    cases (leb 1 count && leb (key_size k) room)
    (λ t.
    let b = both (leb 1 count) (leb (key_size k) room) t in
    let s = left-stopped (count - 1) (room - key_size k) ks c cs (rw t at e) in
    rw t (stopped-next count room k c (taken (count - 1) (room - key_size k) ks) (leb-true 1 count b.0) (leb-true (key_size k) room b.1) s))
    (λ f.
    let g : k ∷ ks ≡ c ∷ cs = rw f at e in
    let h : k ≡ c = cc in
    rw (f, ← h) (stopped-here count room k f))

-- a key that fits is taken
pub taken_next : (count room : ℕ) (k : Key) (ks : List Key) → 1 ≤ count → key_size k ≤ room → taken count room (k ∷ ks) ≡ k ∷ taken (count - 1) (room - key_size k) ks
taken_next count room k ks h g = rw (le-leb 1 count h, le-leb (key_size k) room g)
