-- What an insertion and a purge mean on a good table in key order. Proved in proofs/.
use Rattle.std.specs.Prelude.{ℕ, ◌<◌, ◌≡◌, None}
use Rattle.document.specs.Documents.{Key, Doc}
use Rattle.document.specs.Stored.{gone_doc}
use Rattle.rows.specs.Table.{Table, table_bytes}
use Rattle.rows.specs.Good.{EntryGood}
use Rattle.rows.specs.Find.{find_row, free_rows}
use Rattle.plain_writer.specs.Change.{purged_rows}
use Rattle.ordered.specs.Insert.{rows_below}
use Rattle.ordered.specs.Ordered.{ordered_engine}
use Rattle.ordered.specs.Claims.{GoodOrdered}
use Rattle.ordered_writer.specs.Insertion.{inserted}
use Rattle.ordered_writer.specs.Gaps.{gaps_closed}

-- a new key's document stored at its place is put
abbrev pub InsertsGood : Type 0
InsertsGood =
    (t : Table) (key : Key) (d : Doc) → GoodOrdered t → EntryGood t.head.mark.0 (record { key = key; doc = d })
    → find_row t.rows key ≡ None → 0 < free_rows t.rows
    → inserted (table_bytes t) (rows_below key t.rows) (record { key = key; doc = d })
    ≡ table_bytes (record { head = t.head; rows = ordered_engine.put t.rows key d })

-- a purge frees the rows that the engine's purge does and closes the gaps
abbrev pub ClosesGood : Type 0
ClosesGood =
    (t : Table) (clock bound : ℕ) → GoodOrdered t
    → gaps_closed (purged_rows (gone_doc clock bound) (table_bytes t))
    ≡ table_bytes (record { head = t.head; rows = ordered_engine.purge t.rows (gone_doc clock bound) })
