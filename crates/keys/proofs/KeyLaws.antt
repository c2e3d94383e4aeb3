-- Laws of specs/Keys.antt: the byte order of keys is a strict total order. It is std's order of slices, whose laws it has.
use native.Mathlib.Omega.{arith}
use mathlib.Core.Path.{◌≡◌, refl, sym, ap, ◌∙◌}
use mathlib.Core.Logic.{◌⊎◌, inl, inr}
use mathlib.Core.Bool.{true, false, ◌&&◌, ◌||◌, false≢true}
use mathlib.Core.List.{List, [], ◌∷◌}
use Prim.Native.Nat.{ℕ, suc, ◌+◌, ◌*◌, ◌≤◌, ◌<◌}
use lib.Dec.{ltb, eqb}
use lib.ListN.{length}
use lib.Seq.{take_all}
use borrow.Author.Tests.{ltb-true, ltb-false, eqb-true, eqb-false, lt-ltb, le-ltb, eq-eqb, ne_eqb}
use Rattle.octets.specs.Parts.{Bytes}
use Rattle.octets.specs.BigEndian.{be_from, be, num}
use Rattle.octets.specs.Compare.{same}
use Rattle.octets.proofs.Choices.{cases}
use Rattle.octets.proofs.Tests.{same_true, same_refl}
use Rattle.std.specs.declared.cmp.Ordering.{Ordering}
use Rattle.std.specs.declared.cmp.Ordering.TheVariants.{Less, Equal, Greater}
use Rattle.std.specs.Ordering.{nat_cmp, ordering_reverse}
use Rattle.std.specs.Cmp.Lexicographic.{slice_cmp}
use Rattle.std.proofs.lemmas.Cmp.{nat_list_cmp_total, tied_itself}
use Rattle.keys.specs.Keys.{side_of, by_side, key_below}

-- by a side, with its equation
pub sides {ℓ} : {X : Type ℓ} (o : Ordering) → (o ≡ Less → X) → (o ≡ Equal → X) → (o ≡ Greater → X) → X
sides Less l e g = l refl
sides Equal l e g = e refl
sides Greater l e g = g refl

-- std's order of slices
pub side-is : (a b : List ℕ) → side_of a b ≡ slice_cmp nat_cmp a b
unfolding side_of
side-is [] [] = refl
side-is [] (y ∷ b) = refl
side-is (x ∷ a) [] = refl
side-is (x ∷ a) (y ∷ b) = cases (ltb x y) (λ t. rw t) (λ f. cases (eqb x y) (λ t. rw (f, t) (side-is a b)) (λ n. rw (f, n)))

-- big-endian numbers of one width come in the order of their bytes
from-mono : (v w : ℕ) (xs ys : List ℕ) → Bytes xs → Bytes ys → length xs ≡ length ys → v < w → be_from v xs < be_from w ys
unfolding be_from
from-mono v w [] [] y z l h = h
from-mono v w [] (b ∷ ys) y z l h = absurd (omega arith)
from-mono v w (a ∷ xs) [] y z l h = absurd (omega arith)
from-mono v w (a ∷ xs) (b ∷ ys) y z l h = from-mono (v * 256 + a) (w * 256 + b) xs ys (λ k. y (suc k)) (λ k. z (suc k)) (omega arith) (omega (arith, y 0))

from-side : (v : ℕ) (xs ys : List ℕ) → Bytes xs → Bytes ys → length xs ≡ length ys → nat_cmp (be_from v xs) (be_from v ys) ≡ side_of xs ys
unfolding be_from side_of
from-side v [] [] y z l = rw (le-ltb v v (omega arith), eq-eqb v v refl)
from-side v [] (b ∷ ys) y z l = absurd (omega arith)
from-side v (a ∷ xs) [] y z l = absurd (omega arith)
from-side v (a ∷ xs) (b ∷ ys) y z l =
    let on : (u w : ℕ) → u < w → be_from u xs < be_from w ys = λ u w. from-mono u w xs ys (λ k. y (suc k)) (λ k. z (suc k)) (omega arith) in
    let back : (u w : ℕ) → u < w → be_from u ys < be_from w xs = λ u w. from-mono u w ys xs (λ k. z (suc k)) (λ k. y (suc k)) (omega arith) in
    cases (ltb a b)
    (λ t. let h : a < b = ltb-true a b t in rw (t, lt-ltb _ _ (on (v * 256 + a) (v * 256 + b) (omega arith))))
    (λ f. cases (eqb a b)
    (λ t. rw (f, t, ← eqb-true a b t) (from-side (v * 256 + a) xs ys (λ k. y (suc k)) (λ k. z (suc k)) (omega arith)))
    (λ n. let h : b < a = lt_of (ltb-false a b f) (eqb-false a b n) in
    let g = back (v * 256 + b) (v * 256 + a) (omega arith) in
    rw (f, n, le-ltb (be_from (v * 256 + a) xs) (be_from (v * 256 + b) ys) (omega arith), ne_eqb (be_from (v * 256 + a) xs) (be_from (v * 256 + b) ys) (λ e. omega arith))))
  where
    lt_of : b ≤ a → (a ≡ b → ⊥) → b < a
    lt_of h k = cases (ltb b a) (λ t. ltb-true b a t) (λ f. absurd (k (let z = ltb-false b a f in omega arith)))

pub eight-side : (s t : List ℕ) → Bytes s → Bytes t → length s ≡ 8 → length t ≡ 8 → nat_cmp (num s 0 8) (num t 0 8) ≡ side_of s t
unfolding be
eight-side s t y z h k =
    (λ i. nat_cmp (be_from 0 (take_all 8 s (omega arith) i)) (be_from 0 (take_all 8 t (omega arith) i))) ∙ from-side 0 s t y z (omega arith)

pub side-refl : (a : List ℕ) → side_of a a ≡ Equal
side-refl a = side-is a a ∙ tied_itself nat_list_cmp_total a

pub side-equal : (a b : List ℕ) → side_of a b ≡ Equal → a ≡ b
unfolding side_of
side-equal [] [] e = refl
side-equal [] (y ∷ b) e = cc
side-equal (x ∷ a) [] e = cc
side-equal (x ∷ a) (y ∷ b) e =
    cases (ltb x y)
    (λ t. let f : Less ≡ Equal = rw t at e in cc)
    (λ f. cases (eqb x y) (λ t. λ i. eqb-true x y t i ∷ side-equal a b (rw (f, t) at e) i) (λ n. let q : Greater ≡ Equal = rw (f, n) at e in cc))

-- the other way round
pub side-flip : (a b : List ℕ) → side_of b a ≡ by_side (side_of a b) Greater Equal Less
side-flip a b =
    side-is b a ∙ nat_list_cmp_total.antisymm b a ∙ ap ordering_reverse (sym (side-is a b))
    ∙ sides (side_of a b) (λ l. rw l) (λ e. rw e) (λ g. rw g)

pub side-trans : (a b c : List ℕ) → side_of a b ≡ Less → side_of b c ≡ Less → side_of a c ≡ Less
side-trans a b c p q = side-is a c ∙ nat_list_cmp_total.trans a b c (sym (side-is a b) ∙ p) (sym (side-is b c) ∙ q)

-- the order as a test: lexicographic, irreflexive, transitive, and of two keys that differ one is below the other
pub below_step : (x y : ℕ) (a b : List ℕ) → key_below (x ∷ a) (y ∷ b) ≡ (ltb x y || (eqb x y && key_below a b))
unfolding side_of
below_step x y a b = cases (ltb x y) (λ t. rw t) (λ f. cases (eqb x y) (λ t. rw (f, t)) (λ n. rw (f, n)))

pub below-side : (a b : List ℕ) → key_below a b ≡ true → side_of a b ≡ Less
below-side a b e = sides (side_of a b) (λ l. l) (λ q. absurd (false≢true (rw q at e))) (λ q. absurd (false≢true (rw q at e)))

pub irreflexive : (a : List ℕ) → key_below a a ≡ false
irreflexive a = rw (side-refl a)

pub transitive : (a b c : List ℕ) → key_below a b ≡ true → key_below b c ≡ true → key_below a c ≡ true
transitive a b c p q = rw (side-trans a b c (below-side a b p) (below-side b c q))

pub trichotomy : (a b : List ℕ) → (key_below a b ≡ true) ⊎ ((a ≡ b) ⊎ (key_below b a ≡ true))
trichotomy a b = sides (side_of a b) (λ l. inl (rw l)) (λ e. inr (inl (side-equal a b e))) (λ g. inr (inr (rw (side-flip a b, g))))

-- the sides against the test for equal keys
pub equal-same : (a b : List ℕ) → side_of a b ≡ Equal → same a b ≡ true
equal-same a b e = rw (side-equal a b e) (same_refl b)

pub other-same : (a b : List ℕ) → (side_of a b ≡ Equal → ⊥) → same a b ≡ false
other-same a b n = cases (same a b) (λ s. absurd (n (rw (same_true a b s) (side-refl b)))) (λ f. f)

pub less-same : (a b : List ℕ) → side_of a b ≡ Less → same a b ≡ false
less-same a b l = other-same a b (λ e. let z : Less ≡ Equal = sym l ∙ e in cc)

pub greater-same : (a b : List ℕ) → side_of a b ≡ Greater → same a b ≡ false
greater-same a b g = other-same a b (λ e. let z : Greater ≡ Equal = sym g ∙ e in cc)
