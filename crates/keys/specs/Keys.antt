-- The byte order of keys: unsigned bytes, the first that differs decides, and a prefix sorts first.
use Rattle.std.specs.Prelude.{ℕ, List, [], ◌∷◌, Bool, true, false, cond, ltb, eqb}
use Rattle.std.specs.declared.cmp.Ordering.{Ordering}
use Rattle.std.specs.declared.cmp.Ordering.TheVariants.{Less, Equal, Greater}

-- on which side of the second key the first one stands
unfoldable pub side_of : List ℕ → List ℕ → Ordering
side_of [] [] = Equal
side_of [] (y ∷ ys) = Less
side_of (x ∷ xs) [] = Greater
side_of (x ∷ xs) (y ∷ ys) = cond (ltb x y) Less (cond (eqb x y) (side_of xs ys) Greater)

-- by a side
abbrev pub by_side {ℓ} : {A : Type ℓ} → Ordering → A → A → A → A
by_side Less a b c = a
by_side Equal a b c = b
by_side Greater a b c = c

-- the first key stands before the second
abbrev pub key_below : List ℕ → List ℕ → Bool
key_below a b = by_side (side_of a b) true false false
