-- For the code alone: the keys of any memory's rows, of which no table has more than 256.
use Rattle.std.specs.Prelude.{ℕ, List, Bool, ◌&&◌, leb, drop}
use Rattle.rows.specs.Table.{row_count, rows_of}
use Rattle.plain.specs.Damage.{distinct}

unfoldable pub keys_distinct : List ℕ → Bool
keys_distinct b = leb (row_count b) 256 && distinct (rows_of (row_count b) (drop 16 b))
