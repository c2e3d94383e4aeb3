-- A key's row as a decision sees it: its kind and numbers, without the value.
use Rattle.std.specs.Prelude.{ℕ, Bool, true, false, not, ◌&&◌, ◌||◌, List, leb, Option, Some, None}
use Rattle.numbers.specs.declared.Numbers.{Numbers}
use Rattle.numbers.specs.declared.Mode.{Mode}
use Rattle.numbers.specs.Order.{greater}
use Rattle.numbers.specs.Expiry.{expired}
use Rattle.document.specs.declared.Metadata.{Metadata}
use Rattle.document.specs.Documents.{Key, Doc, Entry}

abbrev pub metadata_of : Doc → Metadata
metadata_of d = record { tomb = d.tomb; numbers = d.numbers }

-- a key's entry from its metadata and its value
abbrev pub entry_of : Key → Metadata → List ℕ → Entry
entry_of key m value = record { key = key; doc = record { tomb = m.tomb; value = value; numbers = m.numbers } }

abbrev pub stored_of : Option Doc → Option Metadata
stored_of None = None
stored_of (Some d) = Some (metadata_of d)

-- "It is *live* when it is a document and not expired."
abbrev pub alive : Bool → ℕ → ℕ → Bool
alive tomb expiry clock = not tomb && not (expired expiry clock)

unfoldable pub live : Option Metadata → ℕ → Bool
live None clock = false
live (Some d) clock = alive d.tomb d.numbers.expiry clock

-- a document, expired or not
abbrev pub is_document : Option Metadata → Bool
is_document None = false
is_document (Some d) = not d.tomb

abbrev pub has_row : Option Metadata → Bool
has_row None = false
has_row (Some d) = true

-- all 0 without a row
abbrev pub numbers_of : Option Metadata → Numbers
numbers_of None = record { flags = 0; expiry = 0; revision = record { 0 = 0 }; cas = record { 0 = 0 } }
numbers_of (Some d) = d.numbers

-- "a key with any row, expired or tombstone included, is compared; the write must be greater"
unfoldable pub accepted : Mode → Option Metadata → Numbers → Bool
accepted m None n = true
accepted m (Some d) n = greater m n d.numbers

-- "It frees exactly the tombstones and expired documents with CAS at or below the bound"
unfoldable pub gone : ℕ → ℕ → Metadata → Bool
gone clock bound m = (m.tomb || expired m.numbers.expiry clock) && leb m.numbers.cas.0 bound

unfoldable pub gone_doc : ℕ → ℕ → Doc → Bool
unfolding gone
gone_doc clock bound d = gone clock bound (metadata_of d)
