-- For the code alone: what the walk of the damage test asks of any memory. What damage is, is in plain's and ordered's own Damage.antt.
use Rattle.std.specs.Prelude.{ℕ, List, Bool, true, ◌&&◌, cond, length, drop, Option, Some, None}
use Rattle.document.specs.declared.Head.{Head}
use Rattle.rows.specs.Row.{Row}
use Rattle.rows.specs.Table.{head_of, chunks, row_count, rows_of}
use Rattle.rows.specs.RowRules.{size_ok, head_ok, all_sound}
use Rattle.ordered.specs.Order.{ordered}

-- in key order, where that is asked for
abbrev pub in_order : Bool → List Row → Bool
in_order keyed ws = cond keyed (ordered ws) true

unfoldable pub rows_ok : Bool → List ℕ → Bool
unfolding size_ok head_ok
rows_ok keyed b =
    size_ok (length b) (row_count b)
    && (head_ok (head_of b)
    && (all_sound (head_of b).mark.0 (chunks (row_count b) (drop 16 b))
    && in_order keyed (rows_of (row_count b) (drop 16 b))))

unfoldable pub checked_rows : Bool → List ℕ → Option Head
checked_rows keyed b = cond (rows_ok keyed b) (Some (head_of b)) None
