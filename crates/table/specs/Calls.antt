-- For the code alone: what a lookup gives and a store leaves, by places, on any memory. What they mean on a table that is not damaged is in Claims.antt.
use Rattle.std.specs.Prelude.{ℕ, ◌+◌, ◌*◌, Bool, true, false, cond, not, ◌&&◌, List, length, eqb, Some, None}
use Rattle.document.specs.declared.Metadata.{Metadata}
use Rattle.document.specs.declared.Side.{Side}
use Rattle.document.specs.Documents.{Key, Doc, Entry}
use Rattle.document.specs.Stored.{metadata_of, entry_of}
use Rattle.engine.specs.declared.Config.{Config}
use Rattle.engine.specs.declared.EngineKind.{EngineKind}
use Rattle.engine.specs.declared.EngineKind.TheVariants.{Plain, Ordered}
use Rattle.engine.specs.declared.Place.{Place}
use Rattle.engine.specs.declared.Place.TheVariants.{Over, Into, Full}
use Rattle.rows.specs.Row.{Row, slot_of, doc_of}
use Rattle.rows.specs.Table.{table_of, row_at}
use Rattle.plain.specs.Lookup.{place_by}
use Rattle.plain_writer.specs.Change.{row_stored, row_updated, row_joined, purged_rows}
use Rattle.plain_listing.specs.Places.{fitting_keys}
use Rattle.ordered_lookup.specs.Halving.{place_ordered}
use Rattle.ordered_writer.specs.Insertion.{inserted}
use Rattle.ordered_writer.specs.Gaps.{gaps_closed}
use Rattle.ordered_listing.specs.Walk.{keys_walked}
use Rattle.table.specs.declared.Lookup.{Lookup}

abbrev pub is_ordered : EngineKind → Bool
is_ordered Plain = false
is_ordered Ordered = true

abbrev pub has_place : Place → Bool
has_place (Over i) = true
has_place (Into i) = true
has_place Full = false

-- what the row at a place holds for a key of k bytes
unfoldable pub lookup_over : List ℕ → ℕ → ℕ → Lookup
lookup_over b k i = record { place = Over i; stored = Some (metadata_of (doc_of (row_at b i))); at = 16 + i * 1312 + (32 + k); len = (slot_of (row_at b i)).vallen }

abbrev pub lookup_at : List ℕ → ℕ → Place → Lookup
lookup_at b k (Over i) = lookup_over b k i
lookup_at b k (Into i) = record { place = Into i; stored = None; at = 0; len = 0 }
lookup_at b k Full = record { place = Full; stored = None; at = 0; len = 0 }

-- the place of a key's document in either engine; new: whether a place is looked for where the key has no row
abbrev pub place_with : EngineKind → Bool → Key → List Row → Place
place_with Plain new key ws = place_by new key ws
place_with Ordered new key ws = place_ordered new key ws

-- a key of no bytes has no row: none is looked for unless a new one is
unfoldable pub place_for : Config → Bool → Key → List Row → Place
place_for config new key ws = cond (eqb (length key) 0 && not new) Full (place_with config.engine new key ws)

-- what a lookup gives
unfoldable pub lookup_of : Config → Bool → List ℕ → Key → Lookup
unfolding lookup_over
lookup_of config new b key = lookup_at b (length key) (place_for config new key (table_of b).rows)

-- an entry in a new row: into the free row there, or before the rows that move by one
abbrev pub stored_with : EngineKind → List ℕ → ℕ → Entry → List ℕ
stored_with Plain b i e = row_stored b i e 0
stored_with Ordered b i e = inserted b i e

unfoldable pub stored_new : Config → List ℕ → ℕ → Entry → List ℕ
stored_new config b i e = stored_with config.engine b i e

-- an entry stored where a lookup of its key said; a row that was found holds the key
abbrev pub stored_in : Config → List ℕ → Place → Entry → ℕ → List ℕ
stored_in config b (Over i) e old = row_updated b i (length e.key) (metadata_of e.doc) e.doc.value old
stored_in config b (Into i) e old = stored_new config b i e
stored_in config b Full e old = b

unfoldable pub stored_by : Config → List ℕ → Lookup → Entry → List ℕ
stored_by config b l e = stored_in config b l.place e l.len

-- a value joined to the one that a lookup of its key found; where it found none, there is nothing to join it to
abbrev pub joined_in : Config → List ℕ → Place → Key → Metadata → Side → List ℕ → ℕ → List ℕ
joined_in config b (Over i) key m side value old = row_joined b i (length key) m side value old
joined_in config b (Into i) key m side value old = stored_new config b i (entry_of key m value)
joined_in config b Full key m side value old = b

unfoldable pub joined_by : Config → List ℕ → Lookup → Key → Metadata → Side → List ℕ → List ℕ
joined_by config b l key m side value = joined_in config b l.place key m side value l.len

-- the rows that a test picks freed, in place or with the gaps closed
abbrev pub purged_with : EngineKind → (Doc → Bool) → List ℕ → List ℕ
purged_with Plain p b = purged_rows p b
purged_with Ordered p b = gaps_closed (purged_rows p b)

unfoldable pub purged_by : Config → (Doc → Bool) → List ℕ → List ℕ
purged_by config p b = purged_with config.engine p b

-- a listing's value: of the room, the memory, the clock, the start key and the count
abbrev pub keys_with : EngineKind → ℕ → List ℕ → ℕ → Key → ℕ → List ℕ
keys_with Plain room b clock start count = fitting_keys room b clock start count
keys_with Ordered room b clock start count = keys_walked room b clock start count

unfoldable pub keys_for : Config → ℕ → List ℕ → ℕ → Key → ℕ → List ℕ
keys_for config room b clock start count = keys_with config.engine room b clock start count
