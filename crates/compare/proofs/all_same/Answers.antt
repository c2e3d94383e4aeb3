-- `all_same` meets its contract: no byte was apart and what is left is the same where all is.
use Prim.Native.Nat.{ℕ}
use lib.Dec.{eqb}
use lib.ListN.{length}
use mathlib.Core.Bool.{Bool, not, ◌&&◌, ◌||◌}
use mathlib.Core.List.{List, ◌∷◌}
use mathlib.Core.Logic.{inl, inr}
use mathlib.Core.Path.{◌≡◌, sym, ◌∙◌}
use native.Mathlib.Omega.{arith}
use Rattle.octets.specs.Compare.{same}
use Rattle.octets.proofs.Tests.{same_next, same_end}
use Rattle.compare.proofs.all_same.Goals as goal

one_more : (all apart : Bool) (s t a b : List ℕ) (x y : ℕ) → s ≡ x ∷ a → t ≡ y ∷ b → (length s ≡ length t) × (all ≡ (not apart && same s t))
    → (length a ≡ length b) × (all ≡ (not (apart || not (eqb x y)) && same a b))
one_more all apart s t a b x y p q h =
    let n : length (x ∷ a) ≡ length (y ∷ b) = rw (p, q) at h.0 in
    let e : all ≡ (not apart && same (x ∷ a) (y ∷ b)) = rw (p, q) at h.1 in
    (omega arith, e ∙ same_next (x ∷ a) (y ∷ b) 0 apart (omega arith) (omega arith))

pub loop-x-preserved : goal.loop-x-preserved
loop-x-preserved c =
    let h = c.in-Some.ensures.steps in
    one_more _ c.loop-x.apart _ _ _ _ _ _ h.0 h.1 c.loop-x.invariant

pub returns : goal.returns
returns c =
    let l = c.loop-x in
    let k : length l.x-iterator.a.rest.now ≡ 0 = elim c.in-None.ensures.steps [ inl p ↦ p.1.0 | inr p ↦ l.invariant.0 ∙ p.1.0 ] in
    sym (l.invariant.1 ∙ same_end _ _ 0 l.apart (omega arith) (omega arith))
