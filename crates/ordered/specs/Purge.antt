-- A purge of rows in key order: the rows that stay close the gaps, and free rows follow them, so that there are as many rows as before.
use Rattle.std.specs.Prelude.{◌-◌, Bool, false, not, cond, List, [], ◌∷◌, ◌++◌, length, replicate, Some, None}
use Rattle.document.specs.Documents.{Doc}
use Rattle.rows.specs.Row.{Row}

-- a used row whose document the test doesn't pick
abbrev pub stays : (Doc → Bool) → Row → Bool
stays p None = false
stays p (Some e) = not (p e.doc)

abbrev pub staying_rows : (Doc → Bool) → List Row → List Row
staying_rows p [] = []
staying_rows p (w ∷ ws) = cond (stays p w) (w ∷ staying_rows p ws) (staying_rows p ws)

abbrev pub purge_ordered : List Row → (Doc → Bool) → List Row
purge_ordered ws p = staying_rows p ws ++ replicate (length ws - length (staying_rows p ws)) None
