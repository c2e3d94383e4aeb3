-- For the code alone: places of rows. Order 7: "keys are found by halving", here on any rows.
use Rattle.std.specs.Prelude.{ℕ, zero, suc, ◌+◌, ◌-◌, ◌/◌, List, [], ◌∷◌, Bool, false, ◌&&◌, cond, length, get_or, ltb, None}
use Rattle.std.specs.declared.cmp.Ordering.{Ordering}
use Rattle.keys.specs.Keys.{by_side}
use Rattle.document.specs.Documents.{Key}
use Rattle.engine.specs.declared.Place.{Place}
use Rattle.engine.specs.declared.Place.TheVariants.{Over, Into, Full}
use Rattle.rows.specs.Row.{Row}
use Rattle.plain.specs.Lookup.{is_free}
use Rattle.ordered.specs.Order.{row_side}

-- the middle of the places from lo to before hi
abbrev pub middle : ℕ → ℕ → ℕ
middle lo hi = lo + (hi - lo) / 2

-- halving these places by the side on which each stands, so many times at most
unfoldable pub halve : ℕ → (ℕ → Ordering) → ℕ → ℕ → Place
halve zero side lo hi = Into lo
halve (suc n) side lo hi =
    cond (ltb lo hi)
    (by_side (side (middle lo hi)) (halve n side (middle lo hi + 1) hi) (Over (middle lo hi)) (halve n side lo (middle lo hi)))
    (Into lo)

-- halving until none is left, which takes no more steps than there are places
unfoldable pub halved : (ℕ → Ordering) → ℕ → ℕ → Place
unfolding halve
halved side lo hi = halve (hi - lo) side lo hi

-- the key's row, or where a new one goes if there is room
unfoldable pub key_place : Key → List Row → Place
unfolding halved
key_place key ws = halved (λ i. row_side key (get_or ws i None)) 0 (length ws)

-- the number of a place, 0 without one
abbrev pub place_number : Place → ℕ
place_number (Over i) = i
place_number (Into i) = i
place_number Full = 0

-- the first row that is not below the key
unfoldable pub first_from : Key → List Row → ℕ
unfolding key_place
first_from key ws = place_number (key_place key ws)

-- used rows stand first, so that the last row tells whether any is free
abbrev pub last_free : List Row → Bool
last_free [] = false
last_free (w ∷ []) = is_free w
last_free (w ∷ v ∷ ws) = last_free (v ∷ ws)

-- a new row's place only where there is room
abbrev pub with_room : Bool → Place → Place
with_room room (Over i) = Over i
with_room room (Into i) = cond room (Into i) Full
with_room room Full = Full

-- the place of a key's document; new: whether a place is looked for where the key has no row
unfoldable pub place_ordered : Bool → Key → List Row → Place
unfolding key_place
place_ordered new key ws = with_room (new && last_free ws) (key_place key ws)
