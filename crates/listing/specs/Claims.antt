-- What is claimed of a listing, of any documents with different keys. Proved in proofs/.
use Rattle.std.specs.Prelude.{ℕ, zero, suc, ◌+◌, ◌≤◌, ◌<◌, ◌≡◌, true, false, List, [], ◌∷◌, ◌++◌, ◌⊎◌, length, drop, Some}
use Rattle.keys.specs.Keys.{key_below}
use Rattle.document.specs.Documents.{Key, Doc, Entry}
use Rattle.document.specs.Stored.{stored_of, live}
use Rattle.engine.specs.Engine.{find_entry, DistinctKeys}
use Rattle.listing.specs.Listing.{key_size, keys_from, listed_keys, listing}

-- a key is one of these
abbrev pub OneOf : Key → List Key → Type 0
OneOf k [] = ⊥
OneOf k (x ∷ xs) = (k ≡ x) ⊎ OneOf k xs

-- each once and ascending: every key is below all after it
abbrev pub BelowAll : Key → List Key → Type 0
BelowAll k [] = Unit {0}
BelowAll k (x ∷ xs) = (key_below k x ≡ true) × BelowAll k xs

abbrev pub Rising : List Key → Type 0
Rising [] = Unit {0}
Rising (x ∷ xs) = BelowAll x xs × Rising xs

-- a key whose document is live, at or after a start key
pub record Lists (docs : List Entry) (clock : ℕ) (start k : Key) : Type 0 where
  pub doc : Doc
  pub found : find_entry docs k ≡ Some doc
  pub live : live (stored_of (Some doc)) clock ≡ true
  pub after : key_below k start ≡ false

-- why such a key is not listed: it comes after every key listed, and the count was reached, or the first of those left out would not have fitted
pub record LeftOut (docs : List Entry) (clock : ℕ) (start : Key) (count : ℕ) (k : Key) : Type 0 where
  pub after : (x : Key) → OneOf x (listed_keys docs clock start count) → key_below x k ≡ true
  pub first : Key
  pub first-lists : Lists docs clock start first
  pub first_out : OneOf first (listed_keys docs clock start count) → ⊥
  pub first-least : key_below k first ≡ false
  pub stopped : (length (listed_keys docs clock start count) ≡ count) ⊎ (1278 < length (listing docs clock start count) + key_size first)

-- "Exactly the live keys at or after the start key, in byte order, each once, stopping at the count or before the first key that would carry the value past 1,278 bytes."
pub record Exact (docs : List Entry) (clock : ℕ) (start : Key) (count : ℕ) : Type 0 where
  pub only : (k : Key) → OneOf k (listed_keys docs clock start count) → Lists docs clock start k
  pub rest : (k : Key) → Lists docs clock start k → (OneOf k (listed_keys docs clock start count) → ⊥) → LeftOut docs clock start count k
  pub rising : Rising (listed_keys docs clock start count)
  pub few : length (listed_keys docs clock start count) ≤ count
  pub short : length (listing docs clock start count) ≤ 1278

abbrev pub ListsExactly : Type 0
ListsExactly = (docs : List Entry) (clock : ℕ) (start : Key) (count : ℕ) → DistinctKeys docs → Exact docs clock start count

-- it depends on nothing but the documents, the clock and the request
abbrev pub ByDocuments : Type 0
ByDocuments =
    (docs others : List Entry) → DistinctKeys docs → DistinctKeys others → ((k : Key) → find_entry docs k ≡ find_entry others k)
    → (clock : ℕ) (start : Key) (count : ℕ) → listing docs clock start count ≡ listing others clock start count

-- ---- paging: the next page is asked for from the last key that was listed
-- a listing from a key that is live begins with it, whatever happened since it was listed; no byte need be appended, so that keys of 250 bytes do too
abbrev pub BeginsWith : Type 0
BeginsWith =
    (docs : List Entry) (clock : ℕ) (k : Key) (count : ℕ) → DistinctKeys docs → Lists docs clock k k → length k ≤ 250 → 1 ≤ count
    → (rest : List Key) × (listed_keys docs clock k count ≡ k ∷ rest)

-- and goes on with exactly what was cut
pub record Cut (docs : List Entry) (clock : ℕ) (start : Key) (before : List Key) (last : Key) : Type 0 where
  pub rest : List Key
  pub all : keys_from docs clock start ≡ before ++ (last ∷ rest)
  pub next : keys_from docs clock last ≡ last ∷ rest

abbrev pub GoesOn : Type 0
GoesOn =
    (docs : List Entry) (clock : ℕ) (start : Key) (count : ℕ) (before : List Key) (last : Key) → DistinctKeys docs
    → listed_keys docs clock start count ≡ before ++ (last ∷ []) → Cut docs clock start before last

-- the last of some keys, or another where there is none
abbrev pub last_or : Key → List Key → Key
last_or k [] = k
last_or k (x ∷ xs) = last_or x xs

-- what n more pages bring, each asked for from the last key known, which they show again
abbrev pub more_pages : ℕ → List Entry → ℕ → Key → ℕ → List Key
more_pages zero docs clock last count = []
more_pages (suc n) docs clock last count =
    let new = drop 1 (listed_keys docs clock last count) in
    new ++ more_pages n docs clock (last_or last new) count

abbrev pub pages : ℕ → List Entry → ℕ → Key → ℕ → List Key
pages n docs clock start count =
    let new = listed_keys docs clock start count in
    new ++ more_pages n docs clock (last_or start new) count

-- so a planner who asks for at least two keys a page comes to the end of a full table: as many pages as there are documents, the first and n more, show every key
abbrev pub PagesAll : Type 0
PagesAll =
    (docs : List Entry) (clock : ℕ) (start : Key) (count n : ℕ) → DistinctKeys docs → ((k : Key) (d : Doc) → find_entry docs k ≡ Some d → length k ≤ 250)
    → 2 ≤ count → length docs ≤ suc n → pages n docs clock start count ≡ keys_from docs clock start
