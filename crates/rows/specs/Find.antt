-- The document of a key, where its value stands and the number of free rows: one meaning, whatever the order of rows.
use Rattle.std.specs.Prelude.{ℕ, suc, ◌+◌, cond, List, [], ◌∷◌, length, Option, Some, None}
use Rattle.octets.specs.Compare.{same}
use Rattle.document.specs.Documents.{Key, Doc}
use Rattle.rows.specs.Row.{Row}

-- the document of the first row with this key
abbrev pub find_row : List Row → Key → Option Doc
find_row [] k = None
find_row (None ∷ r) k = find_row r k
find_row (Some x ∷ r) k = cond (same x.key k) (Some x.doc) (find_row r k)

abbrev pub free_rows : List Row → ℕ
free_rows [] = 0
free_rows (None ∷ r) = suc (free_rows r)
free_rows (Some x ∷ r) = free_rows r

-- where the value of the first row with this key stands, the first row's bytes counted from a place on; 0 without such a row
abbrev pub value_place : List Row → Key → ℕ → ℕ
value_place [] k at = 0
value_place (None ∷ r) k at = value_place r k (at + 1312)
value_place (Some x ∷ r) k at = cond (same x.key k) (at + (32 + length k)) (value_place r k (at + 1312))
