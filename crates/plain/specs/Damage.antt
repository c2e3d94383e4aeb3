-- "Damaged: wrong size, a header field out of range, a row against these rules, a used row with CAS 0 or above the mark, or two used rows with one key." Sound is not damaged.
use Rattle.std.specs.Prelude.{is_some, ℕ, List, [], ◌∷◌, Bool, true, not, ◌&&◌, length, drop, Option, Some, None}
use Rattle.document.specs.declared.Head.{Head}
use Rattle.rows.specs.Row.{Row}
use Rattle.rows.specs.Table.{head_of, chunks, row_count, rows_of}
use Rattle.rows.specs.Find.{find_row}
use Rattle.rows.specs.RowRules.{size_ok, head_ok, all_sound}

-- no used row's key is that of a row after it
abbrev pub distinct : List Row → Bool
distinct [] = true
distinct (None ∷ ws) = distinct ws
distinct (Some e ∷ ws) = not (is_some (find_row ws e.key)) && distinct ws

unfoldable pub sound : List ℕ → Bool
unfolding size_ok head_ok
sound b =
    size_ok (length b) (row_count b)
    && (head_ok (head_of b)
    && (all_sound (head_of b).mark.0 (chunks (row_count b) (drop 16 b))
    && distinct (rows_of (row_count b) (drop 16 b))))

-- 01's number for each answer of the check: "5 | table damaged", 0 where it is not
abbrev pub checked_outcome : Option Head → ℕ
checked_outcome None = 5
checked_outcome (Some h) = 0
