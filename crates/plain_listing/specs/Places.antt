-- For the code alone: places of rows put in key order, on any memory. What it writes on a table that is not damaged is the listing of its documents.
use Rattle.std.specs.Prelude.{ℕ, ◌<◌, Bool, false, not, ◌&&◌, ◌||◌, cond, List, [], ◌∷◌, map, ltb, drop, Some, None}
use Rattle.keys.specs.Keys.{key_below}
use Rattle.document.specs.Documents.{Key}
use Rattle.document.specs.Stored.{stored_of, live}
use Rattle.rows.specs.Row.{Row, key_of}
use Rattle.rows.specs.Table.{row_count, row_at, table_of}
use Rattle.listing.specs.Listing.{insert_key, listing}
use Rattle.plain.specs.Plain.{plain}

-- the key of the row at a place
unfoldable pub key_at : List ℕ → ℕ → Key
key_at b i = key_of (row_at b i)

-- the keys of the places in order from first on
abbrev pub keys_of : List ℕ → List ℕ → ℕ → List Key
keys_of b order first = map (key_at b) (drop first order)

-- every place is that of a row
abbrev pub Within : ℕ → List ℕ → Type 0
Within n [] = Unit {0}
Within n (i ∷ is) = (i < n) × Within n is

-- a row with a live document whose key is at or after the start key
abbrev pub is_listed : ℕ → Key → Row → Bool
is_listed clock start None = false
is_listed clock start (Some e) = live (stored_of (Some e.doc)) clock && not (key_below e.key start)

abbrev pub row_key : Row → Key
row_key None = []
row_key (Some e) = e.key

-- keys in order, and the key of a row among them where it is listed
abbrev pub with_key : ℕ → Key → Row → List Key → List Key
with_key clock start w ks = cond (is_listed clock start w) (insert_key (row_key w) ks) ks

-- the keys of such rows, in the order of rows
abbrev pub keys_listed : ℕ → Key → List Row → List Key
keys_listed clock start [] = []
keys_listed clock start (w ∷ ws) = cond (is_listed clock start w) (row_key w ∷ keys_listed clock start ws) (keys_listed clock start ws)

-- the listing, where the room is 1,302 bytes and the rows are at most 256
unfoldable pub fitting_keys : ℕ → List ℕ → ℕ → Key → ℕ → List ℕ
fitting_keys room b clock start count = cond (ltb room 1302 || ltb 256 (row_count b)) [] (listing (plain.docs (table_of b).rows) clock start count)
