-- What is found by halving in rows that are in key order. Proved in proofs/.
use Rattle.std.specs.Prelude.{ℕ, ◌<◌, ◌≡◌, Bool, true, false, ◌&&◌, cond, List, ◌∷◌, ◌++◌, ltb, length, take, drop, set, get_or, Option, Some, None}
use Rattle.document.specs.Documents.{Key, Doc, Entry}
use Rattle.engine.specs.declared.Place.{Place}
use Rattle.engine.specs.declared.Place.TheVariants.{Over, Into, Full}
use Rattle.rows.specs.Row.{Row}
use Rattle.rows.specs.Find.{find_row, free_rows}
use Rattle.plain.specs.Lookup.{find_in}
use Rattle.ordered.specs.Order.{ordered}
use Rattle.ordered.specs.Insert.{rows_below, one_free_less, insert_row}
use Rattle.ordered_lookup.specs.Halving.{place_ordered, first_from}

-- over the row that was found, else another place
abbrev pub found_or : Option ℕ → Place → Place
found_or (Some i) p = Over i
found_or None p = p

-- halving gives what a walk over all rows gives: the key's row, else, where one is asked for and a row is free, a place past the rows below it
abbrev pub HalvingFinds : Type 0
HalvingFinds =
    (ws : List Row) (key : Key) (new : Bool) → ordered ws ≡ true
    → place_ordered new key ws ≡ found_or (find_in key 0 ws) (cond (new && ltb 0 (free_rows ws)) (Into (rows_below key ws)) Full)

-- the row at a place is the key's, and its document the one that a lookup means
pub record HoldsKey (ws : List Row) (key : Key) (i : ℕ) : Type 0 where
  pub entry : Entry
  pub below : i < length ws
  pub there : get_or ws i None ≡ Some entry
  pub named : entry.key ≡ key
  pub found : find_row ws key ≡ Some entry.doc

-- each place, and that it is given exactly then
pub record KeyPlaced (ws : List Row) (key : Key) (new : Bool) : Type 0 where
  pub over : (i : ℕ) → place_ordered new key ws ≡ Over i → HoldsKey ws key i
  pub over-row : (i : ℕ) (e : Entry) → i < length ws → get_or ws i None ≡ Some e → e.key ≡ key → place_ordered new key ws ≡ Over i
  pub over-found : (d : Doc) → find_row ws key ≡ Some d → (i : ℕ) × (place_ordered new key ws ≡ Over i)
  pub into : (i : ℕ) → place_ordered new key ws ≡ Into i → ((new ≡ true) × (i ≡ rows_below key ws)) × ((find_row ws key ≡ None) × (0 < free_rows ws))
  pub into-free : new ≡ true → find_row ws key ≡ None → 0 < free_rows ws → place_ordered new key ws ≡ Into (rows_below key ws)
  -- "0x82 is still given exactly when no row is free", which 01 asks for a key without a row alone
  pub full : new ≡ true → place_ordered new key ws ≡ Full → (find_row ws key ≡ None) × (free_rows ws ≡ 0)
  pub full-used : find_row ws key ≡ None → free_rows ws ≡ 0 → place_ordered new key ws ≡ Full
  pub full-unasked : new ≡ false → find_row ws key ≡ None → place_ordered new key ws ≡ Full

abbrev pub OrderedPlaces : Type 0
OrderedPlaces = (ws : List Row) (key : Key) (new : Bool) → ordered ws ≡ true → KeyPlaced ws key new

-- the place is where the engine puts the key's document: its row set, or a row of its own before the rows that move by one
abbrev pub PlacePuts : Type 0
PlacePuts =
    (ws : List Row) (key : Key) (d : Doc) (i : ℕ) → ordered ws ≡ true
    → (place_ordered true key ws ≡ Over i → insert_row ws key d ≡ set ws i (Some (record { key = key; doc = d })))
    × (place_ordered true key ws ≡ Into i → insert_row ws key d ≡ take i ws ++ (Some (record { key = key; doc = d }) ∷ one_free_less (drop i ws)))

-- the first row that is not below a key stands past those below it
abbrev pub FirstPastBelow : Type 0
FirstPastBelow = (ws : List Row) (key : Key) → ordered ws ≡ true → first_from key ws ≡ rows_below key ws
