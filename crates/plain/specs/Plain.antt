-- The plain engine: rows in place, a new key in the lowest free one.
use Rattle.std.specs.Prelude.{is_some, ◌≡◌, Bool, cond, List, [], ◌∷◌, length, Some, None}
use Rattle.octets.specs.Compare.{same}
use Rattle.document.specs.Documents.{Key, Doc, Entry}
use Rattle.engine.specs.Engine.{Engine}
use Rattle.rows.specs.Row.{Row}
use Rattle.rows.specs.Find.{find_row, free_rows}

abbrev pub replace : List Row → Key → Doc → List Row
replace [] k d = []
replace (None ∷ r) k d = None ∷ replace r k d
replace (Some x ∷ r) k d = cond (same x.key k) (Some (record { key = k; doc = d }) ∷ r) (Some x ∷ replace r k d)

-- into the lowest free row
abbrev pub fill : List Row → Key → Doc → List Row
fill [] k d = []
fill (None ∷ r) k d = Some (record { key = k; doc = d }) ∷ r
fill (Some x ∷ r) k d = Some x ∷ fill r k d

abbrev pub put_row : List Row → Key → Doc → List Row
put_row r k d = cond (is_some (find_row r k)) (replace r k d) (fill r k d)

abbrev pub purge_rows : List Row → (Doc → Bool) → List Row
purge_rows [] p = []
purge_rows (None ∷ r) p = None ∷ purge_rows r p
purge_rows (Some x ∷ r) p = cond (p x.doc) None (Some x) ∷ purge_rows r p

-- no two used rows have one key
abbrev pub Distinct : List Row → Type 0
Distinct [] = Unit {0}
Distinct (None ∷ r) = Distinct r
Distinct (Some x ∷ r) = (find_row r x.key ≡ None) × Distinct r

-- the used rows' entries
abbrev pub used_rows : List Row → List Entry
used_rows [] = []
used_rows (None ∷ r) = used_rows r
used_rows (Some x ∷ r) = x ∷ used_rows r

abbrev pub plain : Engine
plain = record { Rows = List Row; Good = Distinct; find = find_row; free = free_rows; put = put_row; purge = purge_rows; size = length; docs = used_rows }
