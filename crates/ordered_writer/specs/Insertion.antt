-- A new key's row among the rows of any memory. What it means on a table in key order is in Claims.antt.
use Rattle.std.specs.Prelude.{ℕ, ◌+◌, ◌-◌, ◌*◌, ◌&&◌, cond, List, ◌++◌, ltb, leb, length, Option, Some, None}
use Rattle.octets.specs.Parts.{part, pasted}
use Rattle.document.specs.Documents.{Entry}
use Rattle.rows.specs.Row.{row_bytes}
use Rattle.rows.specs.Table.{row_count, table_of}
use Rattle.plain.specs.Lookup.{free_in}

-- from the i-th row on the entry's row and the rows from there to before the u-th, over those and the u-th; unchanged where there are no such rows or the entry doesn't fit one
unfoldable pub row_inserted : List ℕ → ℕ → ℕ → Entry → List ℕ
row_inserted b i u e =
    cond (leb i u && (ltb u (row_count b) && leb (length e.key + length e.doc.value) 1280))
    (pasted b (16 + i * 1312) (row_bytes (Some e) ++ part b (16 + i * 1312) ((u - i) * 1312))) b

-- the same up to a free row, unchanged without one
abbrev pub inserted_by : List ℕ → ℕ → Entry → Option ℕ → List ℕ
inserted_by b i e (Some u) = row_inserted b i u e
inserted_by b i e None = b

-- and that row is the first free one
abbrev pub inserted : List ℕ → ℕ → Entry → List ℕ
inserted b i e = inserted_by b i e (free_in 0 (table_of b).rows)
