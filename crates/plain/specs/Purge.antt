-- A purge: a row whose document the test picks is freed in place.
use Rattle.std.specs.Prelude.{ℕ, ◌+◌, List, [], ◌∷◌, Bool, true, false, Some, None}
use Rattle.document.specs.Documents.{Doc}
use Rattle.rows.specs.Row.{Row}

-- a used row whose document the test picks
abbrev pub picked : (Doc → Bool) → Row → Bool
picked p None = false
picked p (Some e) = p e.doc

abbrev pub one : Bool → ℕ
one true = 1
one false = 0

-- how many rows a purge frees
abbrev pub gone_count : (Doc → Bool) → List Row → ℕ
gone_count p [] = 0
gone_count p (w ∷ ws) = one (picked p w) + gone_count p ws
