-- The owner's calls, on any memory: make a fresh table, read a document, purge, and make a table active. Of reading and purging: "Both answer 5 on a damaged table and change nothing."
use Rattle.std.specs.Prelude.{ℕ, ◌+◌, ◌*◌, List, Bool, cond, ◌&&◌, length, leb, eqb, Option, Some, None, ℤ}
use Rattle.std.specs.declared.result.Result.{Result}
use Rattle.std.specs.declared.result.Result.TheVariants.{Ok, Err}
use Rattle.document.specs.Documents.{Key, Doc}
use Rattle.numbers.specs.declared.Numbers.{Numbers}
use Rattle.owning.specs.declared.Document.{Document as Shown}
use Rattle.owning.specs.declared.ReadError.{ReadError}
use Rattle.owning.specs.declared.ReadError.TheVariants.{Damaged as NotRead, Missing as NoDocument, Expired as Past}
use Rattle.owning.specs.declared.PurgeError.{PurgeError}
use Rattle.owning.specs.declared.ActivateError.{ActivateError}
use Rattle.owning.specs.declared.ActivateError.TheVariants.{Damaged as DamagedTable, Dead as DeadTable}
use Rattle.owning.specs.declared.MakeError.{MakeError}
use Rattle.numbers.specs.Expiry.{seconds_left, is_past, seconds_in}
use Rattle.document.specs.declared.Head.{Head}
use Rattle.document.specs.Head.{stated}
use Rattle.document.specs.Stored.{gone_doc}
use Rattle.rows.specs.Row.{Row}
use Rattle.rows.specs.Table.{Table, table_of, table_at, clock_at, table_bytes, fresh}
use Rattle.rows.specs.RowRules.{size_ok}
use Rattle.rows.specs.Find.{find_row, value_place}
use Rattle.engine.specs.declared.Config.{Config}
use Rattle.plain.specs.Damage.{checked_outcome}
use Rattle.plain.specs.Purge.{gone_count}
use Rattle.engines.specs.Engines.{engine_of}
use Rattle.engines.specs.Damage.{sound_by}

-- what a read answers: outcome 5; status 0x01, for an expired document with the seconds that are left; or the live document's four numbers, the time that is left, and where its value stands: a place and a length
pub data Document : Type 0 where
  Damaged : Document
  Missing : Document
  Expired : ℤ → Document
  Live : Numbers → Option ℤ → ℕ → ℕ → Document

-- outcome 5, or how many rows were freed
pub data Purged : Type 0 where
  NotPurged : Purged
  Freed : ℕ → Purged

-- outcome 5; status 0x07, for a dead table; or the table is active
pub data Activated : Type 0 where
  NotActivated : Activated
  Dead : Activated
  Active : Activated

-- what the code answers, in these
abbrev pub unread_told : ReadError → Document
unread_told NotRead = Damaged
unread_told NoDocument = Missing
unread_told (Past left) = Expired left

abbrev pub read_told : Result Shown ReadError → Document
read_told (Ok d) = Live d.numbers d.left d.at d.len
read_told (Err e) = unread_told e

abbrev pub purged_told : Result ℕ PurgeError → Purged
purged_told (Ok n) = Freed n
purged_told (Err e) = NotPurged

abbrev pub inactive_told : ActivateError → Activated
inactive_told DamagedTable = NotActivated
inactive_told DeadTable = Dead

abbrev pub activated_told : Result (Unit {0}) ActivateError → Activated
activated_told (Ok done) = Active
activated_told (Err e) = inactive_told e

-- 01's outcome of making a table: "refused with 5"
abbrev pub made_told : Result (Unit {0}) MakeError → ℕ
made_told (Ok done) = 0
made_told (Err e) = 5

-- 01's numbers for the answers: outcome 5 on a damaged table, status 0x01 where there is no live document
abbrev pub read_outcome : Document → ℕ
read_outcome Damaged = checked_outcome None
read_outcome Missing = 0
read_outcome (Expired s) = 0
read_outcome (Live n left at len) = 0

abbrev pub read_status : Document → ℕ
read_status Damaged = 0
read_status Missing = 0x01
read_status (Expired s) = 0x01
read_status (Live n left at len) = 0

abbrev pub purge_outcome : Purged → ℕ
purge_outcome NotPurged = checked_outcome None
purge_outcome (Freed n) = 0

-- how many rows a purge freed
abbrev pub purged_count : Purged → ℕ
purged_count NotPurged = 0
purged_count (Freed n) = n

-- order 9, of making a table active: "It answers 5 on a damaged table and 0x07 on a dead one."
abbrev pub activate_outcome : Activated → ℕ
activate_outcome NotActivated = checked_outcome None
activate_outcome Dead = 0
activate_outcome Active = 0

abbrev pub activate_status : Activated → ℕ
activate_status NotActivated = 0
activate_status Dead = 0x07
activate_status Active = 0

-- the bytes that a table of n rows needs, 0 where no table has so many
unfoldable pub size_of : ℕ → ℕ
size_of n = cond (leb 1 n && leb n 256) (16 + n * 1312) 0

-- "Making one is refused with 5, lent memory unchanged, exactly if the row count, state or mode is out of range or the memory isn't exactly as large as that row count needs."
unfoldable pub make_ok : ℕ → ℕ → ℕ → ℕ → Bool
make_ok len n state mode = size_ok len n && ((leb 1 state && leb state 4) && (leb 1 mode && leb mode 2))

unfoldable pub make_outcome : ℕ → ℕ → ℕ → ℕ → ℕ
unfolding make_ok
make_outcome len n state mode = cond (make_ok len n state mode) 0 5

unfoldable pub made : List ℕ → ℕ → ℕ → ℕ → ℕ → List ℕ
unfolding make_ok
made b n state mode vbucket = cond (make_ok (length b) n state mode) (table_bytes (fresh n state mode vbucket)) b

-- "the live document's four numbers and where its value stands in the table memory, or status 0x01 exactly if there is none"; order 5, of the seconds left:
-- "The owner's read shows it, beside 0x01 for an expired document too."
abbrev pub shown_left : List Row → Key → Doc → Option ℤ → Document
shown_left rows key d left = cond (is_past left) (Expired (seconds_in left)) (Live d.numbers left (value_place rows key 16) (length d.value))

abbrev pub shown : List Row → ℕ → Key → Option Doc → Document
shown rows clock key None = Missing
shown rows clock key (Some d) = cond d.tomb Missing (shown_left rows key d (seconds_left d.numbers.expiry clock))

-- at the later of the two clocks; it takes the memory as it is, and so raises none
unfoldable pub read_of : Config → List ℕ → ℕ → Key → Document
read_of config b clock key = cond (sound_by config b) (shown (table_of b).rows (clock_at (table_of b) clock) key (find_row (table_of b).rows key)) Damaged

-- "It frees exactly the tombstones and expired documents with CAS at or below the bound, reports how many, and leaves the mark."
unfoldable pub purge_of : Config → List ℕ → ℕ → ℕ → Purged
purge_of config b clock bound = cond (sound_by config b) (Freed (gone_count (gone_doc (clock_at (table_of b) clock) bound) (table_of b).rows)) NotPurged

-- a table after a purge by this test
abbrev pub purged_table : Config → Table → (Doc → Bool) → Table
purged_table config t p = record { head = t.head; rows = (engine_of config).purge t.rows p }

-- order 2: "A purge, and serving a frame with any status, raise it"
unfoldable pub purged_bytes : Config → List ℕ → ℕ → ℕ → List ℕ
purged_bytes config b clock bound =
    cond (sound_by config b) (table_bytes (purged_table config (table_at (table_of b) clock) (gone_doc (clock_at (table_of b) clock) bound))) b

-- a head in state 4
abbrev pub is_dead : Head → Bool
is_dead h = eqb h.state 4

-- order 9: "Replica and pending tables now take no write; a new owner call makes one active, leaves an active one, and changes nothing but the state.
-- It answers 5 on a damaged table and 0x07 on a dead one." It takes no clock, and raises none.
unfoldable pub activate_of : Config → List ℕ → Activated
activate_of config b = cond (sound_by config b) (cond (is_dead (table_of b).head) Dead Active) NotActivated

-- the same head in state 1
abbrev pub activated : Head → Head
activated h = stated h 1

abbrev pub activated_table : Table → Table
activated_table t = record { head = activated t.head; rows = t.rows }

unfoldable pub activated_bytes : Config → List ℕ → List ℕ
activated_bytes config b = cond (sound_by config b) (cond (is_dead (table_of b).head) b (table_bytes (activated_table (table_of b)))) b
