-- Keys in order: where one more goes among them, and that those from a start key on may be cut before sorting as well as after it.
use native.Mathlib.Omega.{arith}
use mathlib.Core.Path.{◌≡◌, refl, sym, ap, ◌∙◌}
use mathlib.Core.Logic.{⊎_elim}
use mathlib.Core.Bool.{true, false, cond, false≢true}
use mathlib.Core.List.{List, [], ◌∷◌, ◌++◌}
use Prim.Native.Nat.{ℕ, zero, suc, ◌<◌}
use lib.ListN.{length, take, drop, get_or}
use Rattle.octets.proofs.Choices.{cases}
use Rattle.keys.specs.Keys.{key_below}
use Rattle.keys.proofs.KeyLaws.{irreflexive, transitive, trichotomy}
use Rattle.document.specs.Documents.{Key}
use Rattle.listing.specs.Listing.{insert_key, sort_keys, from_key}
use Rattle.listing.specs.Order.{NoneBelow, InOrder}

-- ---- a key that is not below another is that one or after it
module _ (a b c : Key) where
  pub below-least : key_below a b ≡ true → key_below c b ≡ false → key_below a c ≡ true
  below-least p q =
      ⊎_elim
      (λ l. absurd (false≢true (sym q ∙ l)))
      (⊎_elim (λ e. ap (key_below a) e ∙ p) (λ g. transitive a b c p g))
      (trichotomy c b)

  pub least-below : key_below b a ≡ false → key_below b c ≡ true → key_below a c ≡ true
  least-below p q =
      ⊎_elim
      (λ l. absurd (false≢true (sym p ∙ l)))
      (⊎_elim (λ e. ap (λ (k : Key). key_below k c) (sym e) ∙ q) (λ g. transitive a b c g q))
      (trichotomy b a)

pub least-least : (a b c : Key) → key_below b a ≡ false → key_below c b ≡ false → key_below c a ≡ false
least-least a b c p q = cases (key_below c a) (λ t. absurd (false≢true (sym q ∙ below-least c a b t p))) (λ f. f)

pub not-both : (a b : Key) → key_below a b ≡ true → key_below b a ≡ false
not-both a b p = cases (key_below b a) (λ t. absurd (false≢true (sym (irreflexive a) ∙ transitive a b a p t))) (λ f. f)

-- ---- keys in order stay so with one more
none-least : (a b : Key) (xs : List Key) → key_below b a ≡ false → NoneBelow b xs → NoneBelow a xs
none-least a b [] p n = tt
none-least a b (x ∷ xs) p n = (least-least a b x p n.0, none-least a b xs p n.1)

none-insert : (a k : Key) (xs : List Key) → key_below k a ≡ false → NoneBelow a xs → NoneBelow a (insert_key k xs)
none-insert a k [] p n = (p, tt)
none-insert a k (x ∷ xs) p n = cases (key_below x k) (λ t. rw t (n.0, none-insert a k xs p n.1)) (λ f. rw f (p, n))

pub insert-order : (k : Key) (xs : List Key) → InOrder xs → InOrder (insert_key k xs)
insert-order k [] o = (tt, tt)
insert-order k (x ∷ xs) o =
    cases (key_below x k)
    (λ t. rw t (none-insert x k xs (not-both x k t) o.0, insert-order k xs o.1))
    (λ f. rw f ((f, none-least k x xs f o.0), o))

pub sort-order : (ks : List Key) → InOrder (sort_keys ks)
sort-order [] = tt
sort-order (k ∷ ks) = insert-order k (sort_keys ks) (sort-order ks)

-- ---- where one more goes: before all, or after a key that is below it and before one that isn't
none-at : (d a : Key) (xs : List Key) (q : ℕ) → NoneBelow a xs → q < length xs → key_below (get_or xs q d) a ≡ false
none-at d a [] q n h = let z : ⊥ = omega arith in absurd z
none-at d a (x ∷ xs) zero n h = n.0
none-at d a (x ∷ xs) (suc q) n h = none-at d a xs q n.1 (omega arith)

module _ (d k : Key) where
  pub insert-first : (ks : List Key) → (0 < length ks → key_below (get_or ks 0 d) k ≡ false) → insert_key k ks ≡ k ∷ ks
  insert-first [] h = refl
  insert-first (x ∷ xs) h = rw (h (omega arith))

  pub insert-after : (ks : List Key) (q : ℕ) → InOrder ks → q < length ks → key_below (get_or ks q d) k ≡ true
      → (suc q < length ks → key_below (get_or ks (suc q) d) k ≡ false) → insert_key k ks ≡ take (suc q) ks ++ (k ∷ drop (suc q) ks)
  insert-after [] q o l t h = let z : ⊥ = omega arith in absurd z
  insert-after (x ∷ xs) zero o l t h = rw t (ap (λ (r : List Key). x ∷ r) (insert-first xs (λ m. h (omega arith))))
  insert-after (x ∷ xs) (suc q) o l t h =
      let s = least-below x (get_or xs q d) k (none-at d x xs q o.0 (omega arith)) t in
      rw s (ap (λ (r : List Key). x ∷ r) (insert-after xs q o.1 (omega arith) t (λ m. h (omega arith))))

-- ---- from a start key on: one more goes in where it is not below the start key
pub from-insert : (start k : Key) (xs : List Key) → from_key start (insert_key k xs) ≡ cond (key_below k start) (from_key start xs) (insert_key k (from_key start xs))
from-insert start k [] = refl
from-insert start k (x ∷ xs) =
    cases (key_below x k)
    (λ t. cases (key_below x start)
    (λ u. rw (t, u) (from-insert start k xs))
    (λ f. rw (t, f, least-least start x k f (not-both x k t), t)))
    (λ g. cases (key_below k start)
    (λ u. rw (g, u))
    (λ f. rw (g, f, least-least start k x f g, g)))
