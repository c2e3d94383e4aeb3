-- Order 1, key listing, on bytes: what a Get Keys frame is answered, and that the keys listed are exactly the live ones, said in 01's words and numbers. Proved in proofs/Listing.antt.
use Rattle.std.specs.Prelude.{ℕ, suc, ◌+◌, ◌≤◌, ◌≡◌, true, false, List, [], ◌∷◌, ◌++◌, length, drop, Some}
use Rattle.engine.specs.declared.Config.{Config}
use Rattle.octets.specs.Parts.{Bytes}
use Rattle.octets.specs.BigEndian.{num}
use Rattle.keys.specs.Keys.{key_below}
use Rattle.document.specs.Documents.{Key, Doc, Entry}
use Rattle.listing.specs.Listing.{keys_from, listed_keys, listing}
use Rattle.listing.specs.Claims.{OneOf, Rising, LeftOut, pages}
use Rattle.header.specs.declared.Header.{Header}
use Rattle.header.specs.Header.{header_of, header_bytes}
use Rattle.rows.specs.Table.{table_of}
use Rattle.plain.specs.Plain.{used_rows}
use Rattle.engines.specs.Damage.{sound_by}
use Rattle.serving.specs.Serve.{Done, served, served_table, served_reply}
use Rattle.promises.specs.Merge.{doc_at}
use Rattle.promises.specs.Kept.{later_at, clock_raised, kept_by}
use Rattle.promises.specs.Expiry.{Live, opcode, extras_in, key_in, Reaches}

-- "optional 4-byte count, 1,000 if absent"
abbrev pub count_by : List ℕ → ℕ
count_by [] = 1000
count_by (x ∷ xs) = num (x ∷ xs) 0 4

abbrev pub count_in : List ℕ → ℕ
count_in s = count_by (extras_in s)

-- the documents in a table's memory, with their keys
abbrev pub docs_in : List ℕ → List Entry
docs_in b = used_rows (table_of b).rows

-- ---- the answer
-- the reply's value: the listing from the frame's key, as many keys as it asks for, at the later of the kept clock and the call's
abbrev pub listing_in : List ℕ → ℕ → List ℕ → List ℕ
listing_in b clock s = listing (docs_in b) (later_at b clock) (key_in s) (count_in s)

-- document 000's header: status 0, opaque echoed, no key, no extras, "reply CAS 0"
abbrev pub listing_header : ℕ → ℕ → Header
listing_header opaque body = record {
  magic = 0x81;
  opcode = 0xb8;
  keylen = 0;
  extlen = 0;
  datatype = 0;
  vbucket = 0;
  body = body;
  opaque = opaque;
  cas = record { 0 = 0 };
}

abbrev pub listing_reply : List ℕ → ℕ → List ℕ → List ℕ
listing_reply b clock s = header_bytes (listing_header (header_of s).opaque (length (listing_in b clock s))) ++ listing_in b clock s

pub record ServesListing (config : Config) (b : List ℕ) (clock : ℕ) (s out : List ℕ) : Type 0 where
  pub answer : served config b clock s (length out) ≡ Done 0 (24 + (header_of s).body) (24 + length (listing_in b clock s))
  pub table : served_table config b clock s (length out) ≡ clock_raised b clock
  pub reply : served_reply config b clock s out ≡ listing_reply b clock s ++ drop (24 + length (listing_in b clock s)) out

-- "Header CAS is ignored"; "None found is status 0": a whole frame to which none of the statuses up to 0x07 applies is answered the listing
abbrev pub ListingServed : Config → Type 0
ListingServed config = (b : List ℕ) (clock : ℕ) (s out : List ℕ) → Reaches config b clock s (length out) → opcode s ≡ 0xb8 → ServesListing config b clock s out

-- no such frame changes a table byte but the kept clock's, whatever the memory and whatever its form
abbrev pub ListingKeeps : Config → Type 0
ListingKeeps config =
    (b : List ℕ) (clock : ℕ) (s : List ℕ) (room : ℕ) → Bytes b → opcode s ≡ 0xb8
    → served_table config b clock s room ≡ kept_by (served config b clock s room) b clock

-- ---- the keys listed
-- a key with a live document, at or after a start key
pub record LiveFrom (b : List ℕ) (clock : ℕ) (start k : Key) : Type 0 where
  pub doc : Doc
  pub there : doc_at b k ≡ Some doc
  pub live : Live clock doc
  pub after : key_below k start ≡ false

-- such a key that is not listed: where the listing stopped, and that the first key left out is such a key too
pub record CutBefore (b : List ℕ) (clock : ℕ) (start : Key) (count : ℕ) (k : Key) : Type 0 where
  pub left : LeftOut (docs_in b) clock start count k
  pub first : LiveFrom b clock start left.first

-- "Exactly the live keys at or after the start key, in byte order, each once, stopping at the count or before the first key that would carry the value past 1,278 bytes."
pub record ListsLive (b : List ℕ) (clock : ℕ) (start : Key) (count : ℕ) : Type 0 where
  pub only : (k : Key) → OneOf k (listed_keys (docs_in b) clock start count) → LiveFrom b clock start k
  pub rest : (k : Key) → LiveFrom b clock start k → (OneOf k (listed_keys (docs_in b) clock start count) → ⊥) → CutBefore b clock start count k
  pub rising : Rising (listed_keys (docs_in b) clock start count)
  pub few : length (listed_keys (docs_in b) clock start count) ≤ count
  pub short : length (listing (docs_in b) clock start count) ≤ 1278

abbrev pub ListingLive : Config → Type 0
ListingLive config = (b : List ℕ) (clock : ℕ) (start : Key) (count : ℕ) → Bytes b → sound_by config b ≡ true → ListsLive b clock start count

-- two tables with the same documents, whatever the order of their rows and how many are free, list alike
abbrev pub ListingByDocuments : Config → Type 0
ListingByDocuments config =
    (b c : List ℕ) → Bytes b → sound_by config b ≡ true → Bytes c → sound_by config c ≡ true → ((k : Key) → doc_at b k ≡ doc_at c k)
    → (clock : ℕ) (start : Key) (count : ℕ) → listing (docs_in b) clock start count ≡ listing (docs_in c) clock start count

-- pages of at least two keys, each asked for from the last key of the one before, come to the end: one for each document is enough, so 256 are
abbrev pub ListingPages : Config → Type 0
ListingPages config =
    (b : List ℕ) (clock : ℕ) (start : Key) (count : ℕ) → Bytes b → sound_by config b ≡ true → 2 ≤ count
    → (length (docs_in b) ≤ 256) × ((n : ℕ) → length (docs_in b) ≤ suc n → pages n (docs_in b) clock start count ≡ keys_from (docs_in b) clock start)
