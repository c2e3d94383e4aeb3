-- For the code alone: places of rows. Where a key's row is, and where a new key goes: "A new key takes the lowest free row."
use Rattle.std.specs.Prelude.{ℕ, ◌+◌, ◌/◌, List, [], ◌∷◌, Bool, true, false, cond, eqb, length, Option, Some, None}
use Rattle.octets.specs.Compare.{same}
use Rattle.engine.specs.declared.Place.{Place}
use Rattle.engine.specs.declared.Place.TheVariants.{Over, Into, Full}
use Rattle.rows.specs.Row.{Row}
use Rattle.rows.specs.Table.{rows_of}

-- a used row with this key
abbrev pub holds : List ℕ → Row → Bool
holds key None = false
holds key (Some e) = same e.key key

abbrev pub is_free : Row → Bool
is_free None = true
is_free (Some e) = false

-- the first place, or the second where there is no first
abbrev pub or_else : Option ℕ → Option ℕ → Option ℕ
or_else (Some i) f = Some i
or_else None f = f

-- the whole rows of a run of bytes
abbrev pub run_rows : List ℕ → List Row
run_rows b = rows_of (length b / 1312) b

-- the place of the first row that holds the key, and of the first free row, counted from i
abbrev pub find_in : List ℕ → ℕ → List Row → Option ℕ
find_in key i [] = None
find_in key i (w ∷ ws) = cond (holds key w) (Some i) (find_in key (i + 1) ws)

abbrev pub free_in : ℕ → List Row → Option ℕ
free_in i [] = None
free_in i (w ∷ ws) = cond (is_free w) (Some i) (free_in (i + 1) ws)

-- the key's row, else the lowest free row
abbrev pub place_in : List ℕ → List Row → Option ℕ
place_in key ws = or_else (find_in key 0 ws) (free_in 0 ws)

-- a new row's place, and the place of a key's document: over its row, else a new row's
abbrev pub free_place : Option ℕ → Place
free_place (Some i) = Into i
free_place None = Full

abbrev pub found_place : Option ℕ → Option ℕ → Place
found_place (Some i) f = Over i
found_place None f = free_place f

-- the key's row; an empty key has none
unfoldable pub key_row : List ℕ → List Row → Option ℕ
key_row key ws = cond (eqb (length key) 0) None (find_in key 0 ws)

-- where a new row is asked for, the lowest free one serves as that
unfoldable pub place_by : Bool → List ℕ → List Row → Place
unfolding key_row
place_by new key ws = found_place (key_row key ws) (cond new (free_in 0 ws) None)
