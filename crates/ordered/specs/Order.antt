-- Order 7, rows in key order: "Keep used rows first, in ascending key byte order".
use Rattle.std.specs.Prelude.{Bool, true, false, ◌&&◌, List, [], ◌∷◌, Some, None}
use Rattle.std.specs.declared.cmp.Ordering.{Ordering}
use Rattle.std.specs.declared.cmp.Ordering.TheVariants.{Greater}
use Rattle.keys.specs.Keys.{side_of, key_below}
use Rattle.document.specs.Documents.{Key}
use Rattle.rows.specs.Row.{Row}

-- the second row may stand right after the first: a free row after any, a used one only after a used one with a smaller key
abbrev pub follows : Row → Row → Bool
follows w None = true
follows None (Some e) = false
follows (Some d) (Some e) = key_below d.key e.key

-- the rows after a row, each held against the one before it
abbrev pub ordered_from : Row → List Row → Bool
ordered_from w [] = true
ordered_from w (v ∷ ws) = follows w v && ordered_from v ws

abbrev pub ordered : List Row → Bool
ordered [] = true
ordered (w ∷ ws) = ordered_from w ws

-- a row's side of a key; a free row is above every key
abbrev pub row_side : Key → Row → Ordering
row_side key None = Greater
row_side key (Some e) = side_of e.key key
