-- The searches over rows, by a test of each row's bytes, and what a row's first bytes say.
use Rattle.std.specs.Prelude.{is_some, Some, None}
use Rattle.std.specs.List.{position_from}
use Rattle.std.specs.Prelude.{is_none}
use Prim.Native.Nat.{ℕ, ◌+◌}
use mathlib.Core.Path.{◌≡◌, refl, ap}
use mathlib.Core.Bool.{◌&&◌, not, cond}
use mathlib.Core.List.{List, [], ◌∷◌, map}
use lib.Dec.{eqb}
use borrow.Author.Tests.{eqb-true, eqb-false}
use Rattle.octets.specs.Parts.{part}
use Rattle.octets.specs.BigEndian.{num}
use Rattle.octets.specs.Compare.{same}
use Rattle.octets.proofs.Choices.{cases}
use Rattle.rows.specs.Row.{Row, slot_of, key_of, row_of}
use Rattle.rows.specs.Find.{find_row}
use Rattle.plain.specs.Lookup.{holds, is_free, find_in, free_in}
use Rattle.rows.proofs.OneRow.{row-free, row-used}

-- the place of the first row that passes a test of its bytes
pub found-in : (key : List ℕ) (i : ℕ) (rs : List (List ℕ)) → position_from (λ r. holds key (row_of r)) i rs ≡ find_in key i (map row_of rs)
found-in key i [] = refl
found-in key i (r ∷ rs) = ap (cond (holds key (row_of r)) (Some i)) (found-in key (i + 1) rs)

pub free-in : (i : ℕ) (rs : List (List ℕ)) → position_from (λ r. is_free (row_of r)) i rs ≡ free_in i (map row_of rs)
free-in i [] = refl
free-in i (r ∷ rs) = ap (cond (is_free (row_of r)) (Some i)) (free-in (i + 1) rs)

module _ (r : List ℕ) where
  pub is_free-row : is_free (row_of r) ≡ eqb (num r 0 2) 0
  is_free-row =
      cases (eqb (num r 0 2) 0)
      (λ t. rw (row-free r (eqb-true (num r 0 2) 0 t), t))
      (λ f. rw (row-used r (eqb-false (num r 0 2) 0 f), f))

  pub row-holds : (key : List ℕ) → (not (eqb (num r 0 2) 0) && same (key_of r) key) ≡ holds key (row_of r)
  row-holds key =
      cases (eqb (num r 0 2) 0)
      (λ t. rw (row-free r (eqb-true (num r 0 2) 0 t), t))
      (λ f. rw (row-used r (eqb-false (num r 0 2) 0 f), f))

-- a key has no place where it has no document
pub missing-found : (key : List ℕ) (i : ℕ) (ws : List Row) → is_none (find_in key i ws) ≡ not (is_some (find_row ws key))
missing-found key i [] = refl
missing-found key i (None ∷ ws) = missing-found key (i + 1) ws
missing-found key i (Some x ∷ ws) = cases (same x.key key) (λ t. rw t) (λ f. rw f (missing-found key (i + 1) ws))
