-- What the calls mean on a table that is not damaged, in documents alone. Proved in proofs/.
use Rattle.std.specs.Prelude.{ℕ, ◌+◌, ◌≤◌, ◌≡◌, Bool, true, ◌||◌, List, ltb, length}
use Rattle.octets.specs.Parts.{Bytes, part}
use Rattle.document.specs.declared.Metadata.{Metadata}
use Rattle.document.specs.declared.Side.{Side}
use Rattle.document.specs.Documents.{Key, Doc, doc_value, joined}
use Rattle.document.specs.Stored.{entry_of, stored_of, has_row, gone_doc}
use Rattle.document.specs.declared.Head.{Head}
use Rattle.engine.specs.declared.Config.{Config}
use Rattle.engine.specs.Engine.{Room}
use Rattle.listing.specs.Listing.{listing}
use Rattle.rows.specs.Row.{Row}
use Rattle.rows.specs.Table.{Table, table_of, table_bytes}
use Rattle.rows.specs.Good.{EntryGood}
use Rattle.rows.specs.Find.{find_row, free_rows, value_place}
use Rattle.plain.specs.Purge.{gone_count}
use Rattle.plain_writer.specs.Change.{freed_rows}
use Rattle.engines.specs.Engines.{engine_of}
use Rattle.engines.specs.Damage.{sound_by}
use Rattle.engines.specs.Claims.{GoodBy}
use Rattle.table.specs.Calls.{has_place, lookup_of, stored_by, joined_by, purged_by, keys_for}

-- a lookup in memory b of a table with these rows
pub record Finds (config : Config) (b : List ℕ) (rows : List Row) (key : Key) (new : Bool) : Type 0 where
  pub stored : (lookup_of config new b key).stored ≡ stored_of (find_row rows key)
  pub value : part b (lookup_of config new b key).at (lookup_of config new b key).len ≡ doc_value (find_row rows key)
  pub inside : (lookup_of config new b key).at + (lookup_of config new b key).len ≤ length b
  pub short : (lookup_of config new b key).len ≤ 1024
  pub size : (lookup_of config new b key).len ≡ length (doc_value (find_row rows key))
  pub stands : (lookup_of config new b key).at ≡ value_place rows key 16
  -- the key has a row, or there is a free one
  pub room : new ≡ true → has_place (lookup_of config new b key).place ≡ (has_row (stored_of (find_row rows key)) || ltb 0 (free_rows rows))

abbrev pub FindsSound : Type 0
FindsSound = (config : Config) (b : List ℕ) (key : Key) (new : Bool) → Bytes b → sound_by config b ≡ true → Finds config b (table_of b).rows key new

abbrev pub FindsGood : Type 0
FindsGood = (config : Config) (t : Table) (key : Key) (new : Bool) → GoodBy config t → Finds config (table_bytes t) t.rows key new

-- storing where a lookup said puts the document
abbrev pub StoresGood : Type 0
StoresGood =
    (config : Config) (t : Table) (key : Key) (d : Doc) → GoodBy config t → EntryGood t.head.mark.0 (record { key = key; doc = d }) → Room (engine_of config) t.rows key
    → stored_by config (table_bytes t) (lookup_of config true (table_bytes t) key) (record { key = key; doc = d })
    ≡ table_bytes (record { head = t.head; rows = (engine_of config).put t.rows key d })

-- order 4: joining where a lookup said stores the joined value
abbrev pub JoinsGood : Type 0
JoinsGood =
    (config : Config) (t : Table) (key : Key) (m : Metadata) (side : Side) (value : List ℕ) → GoodBy config t
    → length key + (length (doc_value (find_row t.rows key)) + length value) ≤ 1280
    → joined_by config (table_bytes t) (lookup_of config true (table_bytes t) key) key m side value
    ≡ stored_by config (table_bytes t) (lookup_of config true (table_bytes t) key) (entry_of key m (joined side (doc_value (find_row t.rows key)) value))

-- no lookup sees the head
abbrev pub LookupHead : Type 0
LookupHead =
    (config : Config) (t : Table) (h : Head) (key : Key) (new : Bool) → GoodBy config t → GoodBy config (record { head = h; rows = t.rows })
    → lookup_of config new (table_bytes (record { head = h; rows = t.rows })) key ≡ lookup_of config new (table_bytes t) key

-- a purge frees the rows that the engine's purge does, and says how many
pub record Purges (config : Config) (t : Table) (clock bound : ℕ) : Type 0 where
  pub bytes : purged_by config (gone_doc clock bound) (table_bytes t) ≡ table_bytes (record { head = t.head; rows = (engine_of config).purge t.rows (gone_doc clock bound) })
  pub count : freed_rows (gone_doc clock bound) (table_bytes t) ≡ gone_count (gone_doc clock bound) t.rows

abbrev pub PurgesGood : Type 0
PurgesGood = (config : Config) (t : Table) (clock bound : ℕ) → GoodBy config t → Purges config t clock bound

-- order 1: the keys that are written are the listing of the documents
abbrev pub ListsKeys : Type 0
ListsKeys =
    (config : Config) (b : List ℕ) (clock : ℕ) (start : Key) (count room : ℕ) → Bytes b → sound_by config b ≡ true → 1302 ≤ room
    → keys_for config room b clock start count ≡ listing ((engine_of config).docs (table_of b).rows) clock start count
