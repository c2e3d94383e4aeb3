-- `equal` meets its contract: std's test for equal slices is the definition's.
use Prim.Native.Nat.{ℕ}
use lib.Dec.{eqb}
use lib.Pointwise.{pointwise}
use mathlib.Core.Bool.{Bool, ◌&&◌}
use mathlib.Core.List.{List, [], ◌∷◌}
use mathlib.Core.Path.{◌≡◌, refl, ap, ◌∙◌}
use Rattle.octets.specs.Compare.{same}
use Rattle.compare.proofs.equal.Goals as goal

same-is : (s t : List ℕ) → pointwise eqb s t ≡ same s t
unfolding same
same-is [] [] = refl
same-is [] (y ∷ t) = refl
same-is (x ∷ s) [] = refl
same-is (x ∷ s) (y ∷ t) = ap (λ (b : Bool). eqb x y && b) (same-is s t)

pub returns : goal.returns
returns c = c.eq.ensures ∙ same-is c.args.s.now c.args.t.now
