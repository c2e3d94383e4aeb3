-- A document stored among rows in key order: over its key's row, or in a row of its own at its place, with the rows after it moved by one.
use Rattle.std.specs.Prelude.{ℕ, suc, List, [], ◌∷◌, Some, None}
use Rattle.keys.specs.Keys.{side_of, by_side}
use Rattle.document.specs.Documents.{Key, Doc}
use Rattle.rows.specs.Row.{Row}
use Rattle.ordered.specs.Order.{row_side}

-- past the rows below the key: the place of the first one that isn't
abbrev pub rows_below : Key → List Row → ℕ
rows_below key [] = 0
rows_below key (w ∷ ws) = by_side (row_side key w) (suc (rows_below key ws)) 0 0

-- rows that move by one, into the first free row: it is gone
abbrev pub one_free_less : List Row → List Row
one_free_less [] = []
one_free_less (None ∷ ws) = ws
one_free_less (Some x ∷ ws) = Some x ∷ one_free_less ws

-- past the rows below the key; then over its row, or before the first row above it. A free row is above every key.
abbrev pub insert_row : List Row → Key → Doc → List Row
insert_row [] k d = []
insert_row (None ∷ ws) k d = Some (record { key = k; doc = d }) ∷ ws
insert_row (Some x ∷ ws) k d =
    by_side (side_of x.key k)
    (Some x ∷ insert_row ws k d)
    (Some (record { key = k; doc = d }) ∷ ws)
    (Some (record { key = k; doc = d }) ∷ Some x ∷ one_free_less ws)
