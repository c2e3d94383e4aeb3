-- Which keys are among some, and that keys of which each is there once are sorted so that every one is below all after it.
use mathlib.Core.Path.{◌≡◌, refl, sym, ap, ◌∙◌}
use mathlib.Core.Logic.{◌⊎◌, inl, inr, ⊎_elim}
use mathlib.Core.Bool.{true, false, false≢true}
use mathlib.Core.List.{List, [], ◌∷◌, ◌++◌}
use Rattle.octets.proofs.Choices.{cases}
use Rattle.keys.specs.Keys.{key_below}
use Rattle.keys.proofs.KeyLaws.{irreflexive, transitive, trichotomy}
use Rattle.document.specs.Documents.{Key}
use Rattle.listing.specs.Listing.{insert_key, sort_keys, from_key}
use Rattle.listing.specs.Order.{NoneBelow}
use Rattle.listing.specs.Claims.{OneOf, BelowAll, Rising}
use Rattle.listing.proofs.Sorting.{below-least, least-least, not-both}

-- ---- of two lists joined
pub one-first : (k : Key) (xs ys : List Key) → OneOf k xs → OneOf k (xs ++ ys)
one-first k [] ys m = absurd m
one-first k (x ∷ xs) ys (inl e) = inl e
one-first k (x ∷ xs) ys (inr m) = inr (one-first k xs ys m)

pub one-second : (k : Key) (xs ys : List Key) → OneOf k ys → OneOf k (xs ++ ys)
one-second k [] ys m = m
one-second k (x ∷ xs) ys m = inr (one-second k xs ys m)

pub one-joined : (k : Key) (xs ys : List Key) → OneOf k (xs ++ ys) → OneOf k xs ⊎ OneOf k ys
one-joined k [] ys m = inr m
one-joined k (x ∷ xs) ys (inl e) = inl (inl e)
one-joined k (x ∷ xs) ys (inr m) = ⊎_elim (λ l. inl (inr l)) (λ r. inr r) (one-joined k xs ys m)

-- a key with what stands before and after it
pub record Split (k : Key) (xs : List Key) : Type 0 where
  pub before : List Key
  pub rest : List Key
  pub all : xs ≡ before ++ (k ∷ rest)

pub split : (k : Key) (xs : List Key) → OneOf k xs → Split k xs
split k [] m = absurd m
split k (x ∷ xs) (inl e) = record { before = []; rest = xs; all = ap (λ (y : Key). y ∷ xs) (sym e) }
split k (x ∷ xs) (inr m) =
    let s = split k xs m in
    record { before = x ∷ s.before; rest = s.rest; all = ap (λ (r : List Key). x ∷ r) s.all }

-- ---- of sorted keys
insert-one : (j k : Key) (xs : List Key) → (j ≡ k) ⊎ OneOf j xs → OneOf j (insert_key k xs)
insert-one j k [] m = m
insert-one j k (x ∷ xs) (inl e) = cases (key_below x k) (λ t. rw t (inr (insert-one j k xs (inl e)))) (λ f. rw f (inl e))
insert-one j k (x ∷ xs) (inr (inl e)) = cases (key_below x k) (λ t. rw t (inl e)) (λ f. rw f (inr (inl e)))
insert-one j k (x ∷ xs) (inr (inr m)) = cases (key_below x k) (λ t. rw t (inr (insert-one j k xs (inr m)))) (λ f. rw f (inr (inr m)))

one-insert : (j k : Key) (xs : List Key) → OneOf j (insert_key k xs) → (j ≡ k) ⊎ OneOf j xs
one-insert j k [] m = m
one-insert j k (x ∷ xs) m =
    cases (key_below x k)
    (λ t.
    let n : (j ≡ x) ⊎ OneOf j (insert_key k xs) = rw t at m in
    ⊎_elim (λ e. inr (inl e)) (λ l. ⊎_elim (λ e. inl e) (λ r. inr (inr r)) (one-insert j k xs l)) n)
    (λ f. rw f at m)

pub sort-one : (k : Key) (xs : List Key) → OneOf k xs → OneOf k (sort_keys xs)
sort-one k [] m = m
sort-one k (x ∷ xs) (inl e) = insert-one k x (sort_keys xs) (inl e)
sort-one k (x ∷ xs) (inr m) = insert-one k x (sort_keys xs) (inr (sort-one k xs m))

pub one-sort : (k : Key) (xs : List Key) → OneOf k (sort_keys xs) → OneOf k xs
one-sort k [] m = m
one-sort k (x ∷ xs) m = ⊎_elim (λ e. inl e) (λ n. inr (one-sort k xs n)) (one-insert k x (sort_keys xs) m)

-- ---- ascending keys
pub below_one : (a k : Key) (xs : List Key) → BelowAll a xs → OneOf k xs → key_below a k ≡ true
below_one a k [] b m = absurd m
below_one a k (x ∷ xs) b (inl e) = ap (key_below a) e ∙ b.0
below_one a k (x ∷ xs) b (inr m) = below_one a k xs b.1 m

below-lower : (a x : Key) (xs : List Key) → key_below a x ≡ true → BelowAll x xs → BelowAll a xs
below-lower a x [] p b = tt
below-lower a x (y ∷ ys) p b = (transitive a x y p b.0, below-lower a x ys p b.1)

below-insert : (a k : Key) (xs : List Key) → key_below a k ≡ true → BelowAll a xs → BelowAll a (insert_key k xs)
below-insert a k [] p b = (p, tt)
below-insert a k (x ∷ xs) p b = cases (key_below x k) (λ t. rw t (b.0, below-insert a k xs p b.1)) (λ f. rw f (p, b))

-- of two keys that differ, one that is not below the other is after it
other-below : (a b : Key) → (a ≡ b → ⊥) → key_below b a ≡ false → key_below a b ≡ true
other-below a b n f = ⊎_elim (λ l. l) (⊎_elim (λ e. absurd (n e)) (λ g. absurd (false≢true (sym f ∙ g)))) (trichotomy a b)

insert-rising : (k : Key) (xs : List Key) → (OneOf k xs → ⊥) → Rising xs → Rising (insert_key k xs)
insert-rising k [] n r = (tt, tt)
insert-rising k (x ∷ xs) n r =
    cases (key_below x k)
    (λ t. rw t (below-insert x k xs t r.0, insert-rising k xs (λ m. n (inr m)) r.1))
    (λ f. let b = other-below k x (λ e. n (inl e)) f in rw f ((b, below-lower k x xs b r.0), r))

-- no key is there twice
abbrev pub Once : List Key → Type 0
Once [] = Unit {0}
Once (x ∷ xs) = (OneOf x xs → ⊥) × Once xs

pub sort-rising : (xs : List Key) → Once xs → Rising (sort_keys xs)
sort-rising [] o = tt
sort-rising (x ∷ xs) o = insert-rising x (sort_keys xs) (λ m. o.0 (one-sort x xs m)) (sort-rising xs o.1)

-- ascending keys are sorted already
insert-below : (k : Key) (xs : List Key) → BelowAll k xs → insert_key k xs ≡ k ∷ xs
insert-below k [] b = refl
insert-below k (x ∷ xs) b = rw (not-both k x b.0)

pub sort-same : (xs : List Key) → Rising xs → sort_keys xs ≡ xs
sort-same [] r = refl
sort-same (x ∷ xs) r = ap (insert_key x) (sort-same xs r.1) ∙ insert-below x xs r.0

-- of two lists joined, each of the first is below each of the second
pub rising-first : (xs ys : List Key) → Rising (xs ++ ys) → Rising xs
rising-first [] ys r = tt
rising-first (x ∷ xs) ys r = (below-first x xs r.0, rising-first xs ys r.1)
  where
    below-first : (a : Key) (zs : List Key) → BelowAll a (zs ++ ys) → BelowAll a zs
    below-first a [] b = tt
    below-first a (z ∷ zs) b = (b.0, below-first a zs b.1)

pub rising-second : (xs ys : List Key) → Rising (xs ++ ys) → Rising ys
rising-second [] ys r = r
rising-second (x ∷ xs) ys r = rising-second xs ys r.1

pub rising-apart : (a b : Key) (xs ys : List Key) → Rising (xs ++ ys) → OneOf a xs → OneOf b ys → key_below a b ≡ true
rising-apart a b [] ys r m n = absurd m
rising-apart a b (x ∷ xs) ys r (inl e) n = ap (λ (k : Key). key_below k b) e ∙ below_one x b (xs ++ ys) r.0 (one-second b xs ys n)
rising-apart a b (x ∷ xs) ys r (inr m) n = rising-apart a b xs ys r.1 m n

-- ascending keys are known by which they are
first-same : (x y : Key) (xs ys : List Key) → BelowAll x xs → BelowAll y ys → OneOf x (y ∷ ys) → OneOf y (x ∷ xs) → x ≡ y
first-same x y xs ys b c (inl e) n = e
first-same x y xs ys b c (inr m) (inl e) = sym e
first-same x y xs ys b c (inr m) (inr n) = absurd (false≢true (sym (not-both x y (below_one x y xs b n)) ∙ below_one y x ys c m))

later : (x y k : Key) (xs ys : List Key) → x ≡ y → BelowAll x xs → OneOf k xs → OneOf k (y ∷ ys) → OneOf k ys
later x y k xs ys e b m (inl f) = absurd (false≢true (sym (irreflexive x) ∙ ap (key_below x) (e ∙ sym f) ∙ below_one x k xs b m))
later x y k xs ys e b m (inr n) = n

pub rising-same : (xs ys : List Key) → Rising xs → Rising ys → ((k : Key) → OneOf k xs → OneOf k ys) → ((k : Key) → OneOf k ys → OneOf k xs) → xs ≡ ys
rising-same [] [] r s f g = refl
rising-same [] (y ∷ ys) r s f g = absurd (g y (inl refl))
rising-same (x ∷ xs) [] r s f g = absurd (f x (inl refl))
rising-same (x ∷ xs) (y ∷ ys) r s f g =
    let e = first-same x y xs ys r.0 s.0 (f x (inl refl)) (g y (inl refl)) in
    let t = rising-same xs ys r.1 s.1
    (λ k m. later x y k xs ys e r.0 m (f k (inr m)))
    (λ k m. later y x k ys xs (sym e) s.0 m (g k (inr m))) in
    λ i. e i ∷ t i

-- ---- from a start key on
pub from_one : (start k : Key) (xs : List Key) → OneOf k xs → key_below k start ≡ false → OneOf k (from_key start xs)
from_one start k [] m p = m
from_one start k (x ∷ xs) (inl e) p = let f : key_below x start ≡ false = ap (λ (j : Key). key_below j start) (sym e) ∙ p in rw f (inl e)
from_one start k (x ∷ xs) (inr m) p = cases (key_below x start) (λ t. rw t (from_one start k xs m p)) (λ f. rw f (inr m))

pub one_from : (start k : Key) (xs : List Key) → OneOf k (from_key start xs) → OneOf k xs
one_from start k [] m = m
one_from start k (x ∷ xs) m = cases (key_below x start) (λ t. inr (one_from start k xs (rw t at m))) (λ f. rw f at m)

pub from-rising : (start : Key) (xs : List Key) → Rising xs → Rising (from_key start xs)
from-rising start [] r = r
from-rising start (x ∷ xs) r = cases (key_below x start) (λ t. rw t (from-rising start xs r.1)) (λ f. rw f r)

pub from-after : (start k : Key) (xs : List Key) → Rising xs → OneOf k (from_key start xs) → key_below k start ≡ false
from-after start k [] r m = absurd m
from-after start k (x ∷ xs) r m =
    cases (key_below x start)
    (λ t. from-after start k xs r.1 (rw t at m))
    (λ f. here f (rw f at m))
  where
    here : key_below x start ≡ false → OneOf k (x ∷ xs) → key_below k start ≡ false
    here f (inl e) = ap (λ (j : Key). key_below j start) e ∙ f
    here f (inr n) = least-least start x k f (not-both x k (below_one x k xs r.0 n))

-- where no key is below it
pub from_all : (start : Key) (xs : List Key) → NoneBelow start xs → from_key start xs ≡ xs
from_all start [] n = refl
from_all start (x ∷ xs) n = rw n.0

-- a second start key that is not below the first
pub from-again : (start last : Key) (xs : List Key) → key_below last start ≡ false → from_key last (from_key start xs) ≡ from_key last xs
from-again start last [] p = refl
from-again start last (x ∷ xs) p =
    cases (key_below x start)
    (λ t. rw (t, below-least x start last t p) (from-again start last xs p))
    (λ f. rw f)

-- from a key that is there
pub from-here : (k : Key) (before rest : List Key) → Rising (before ++ (k ∷ rest)) → from_key k (before ++ (k ∷ rest)) ≡ k ∷ rest
from-here k [] rest r = rw (irreflexive k)
from-here k (x ∷ xs) rest r = rw (below_one x k (xs ++ (k ∷ rest)) r.0 (one-second k xs (k ∷ rest) (inl refl))) (from-here k xs rest r.1)
