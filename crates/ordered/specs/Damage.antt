-- Damage where rows are kept in key order. 01: "Damaged: wrong size, a header field out of range, a row against these rules, a used row with CAS 0 or above the mark, or two used rows with one key."
-- Order 7 reads the last of them "accordingly": a used row that does not stand after a used one with a smaller key, or stands after a free one. Sound is not damaged.
use Rattle.std.specs.Prelude.{ℕ, List, Bool, ◌&&◌, length, drop}
use Rattle.rows.specs.Table.{head_of, chunks, row_count, rows_of}
use Rattle.rows.specs.RowRules.{size_ok, head_ok, all_sound}
use Rattle.ordered.specs.Order.{ordered}

unfoldable pub sound_ordered : List ℕ → Bool
unfolding size_ok head_ok
sound_ordered b =
    size_ok (length b) (row_count b)
    && (head_ok (head_of b)
    && (all_sound (head_of b).mark.0 (chunks (row_count b) (drop 16 b))
    && ordered (rows_of (row_count b) (drop 16 b))))
