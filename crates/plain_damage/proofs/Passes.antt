-- Keys compared: a row's with those of the rows after it, and all.
use Prim.Native.Nat.{ℕ, ◌≤◌, ◌<◌}
use mathlib.Core.Path.{◌≡◌, ap, ◌∙◌}
use mathlib.Core.Bool.{Bool, false, ◌&&◌}
use mathlib.Core.List.{List, ◌∷◌, map}
use lib.ListN.{drop}
use borrow.Author.Tests.{lt-leb, le-leb}
use Rattle.std.specs.Prelude.{is_none}
use Rattle.octets.specs.BigEndian.{num}
use Rattle.rows.specs.Row.{Row, key_of, row_of}
use Rattle.rows.specs.Table.{chunks, row_count}
use Rattle.plain.specs.Lookup.{find_in}
use Rattle.plain.specs.Damage.{distinct}
use Rattle.rows.proofs.OneRow.{row-free, row-used}
use Rattle.plain.proofs.Rows.{missing-found}
use Rattle.plain_damage.specs.Distinct.{keys_distinct}

-- a row, compared with those after it
module _ (r : List ℕ) (ws : List Row) where
  pub distinct-free : num r 0 2 ≡ 0 → distinct ws ≡ distinct (row_of r ∷ ws)
  distinct-free e = rw (row-free r e)

  pub distinct-used : (num r 0 2 ≡ 0 → ⊥) → (is_none (find_in (key_of r) 0 ws) && distinct ws) ≡ distinct (row_of r ∷ ws)
  distinct-used e = ap (λ (t : Bool). t && distinct ws) (missing-found (key_of r) 0 ws) ∙ rw (row-used r e)

-- whether all keys differ, in the order of the code's tests
module _ (b : List ℕ) where
  pub too_many : 256 < row_count b → false ≡ keys_distinct b
  unfolding keys_distinct
  too_many h = rw (lt-leb (row_count b) 256 h)

  pub all-distinct : (rs : List (List ℕ)) → rs ≡ chunks (row_count b) (drop 16 b) → row_count b ≤ 256 → distinct (map row_of rs) ≡ keys_distinct b
  unfolding keys_distinct
  all-distinct rs e h = rw (e, le-leb (row_count b) 256 h)
