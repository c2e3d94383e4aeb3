-- The plain engine meets the laws of an engine.
use Rattle.std.specs.Prelude.{is_some, Option, Some, None}
use native.Mathlib.Omega.{arith}
use mathlib.Core.Path.{◌≡◌, refl, sym, ◌∙◌, ap}
use mathlib.Core.Bool.{Bool, false, cond, true≢false}
use mathlib.Core.List.{List, [], ◌∷◌}
use Prim.Native.Nat.{suc, ◌+◌, ◌<◌}
use lib.ListN.{length}
use Rattle.octets.specs.Compare.{same}
use Rattle.octets.proofs.Choices.{cases}
use Rattle.octets.proofs.Tests.{same_true, same_refl}
use Rattle.document.specs.Documents.{Key, Doc}
use Rattle.engine.specs.Engine.{Laws, after_purge, find_entry, DistinctKeys}
use Rattle.rows.specs.Row.{Row}
use Rattle.plain.specs.Plain.{replace, fill, purge_rows, Distinct, used_rows, plain}
use Rattle.rows.specs.Find.{find_row, free_rows}
use Rattle.octets.proofs.Options.{options, none-some}

same-flip : (a b : Key) → same a b ≡ false → same b a ≡ false
same-flip a b h = cases (same b a) (λ s. absurd (true≢false (sym (rw (same_true b a s) (same_refl a)) ∙ h))) (λ s. s)

-- the tests for two keys that differ can be swapped
pub swap : (i k j : Key) (a b : Doc) (o : Option Doc) → same i k ≡ false
    → cond (same i j) (Some a) (cond (same k j) (Some b) o) ≡ cond (same k j) (Some b) (cond (same i j) (Some a) o)
swap i k j a b o h = cases (same k j) (λ s. rw (s, ← same_true k j s, h)) (λ s. rw s)

find-replace : (r : List Row) (k : Key) (d e : Doc) → find_row r k ≡ Some e → (j : Key) → find_row (replace r k d) j ≡ cond (same k j) (Some d) (find_row r j)
find-replace [] k d e h j = none-some e h
find-replace (None ∷ r) k d e h j = find-replace r k d e h j
find-replace (Some x ∷ r) k d e h j =
    cases (same x.key k)
    (λ s. rw (s, same_true x.key k s) (cases (same k j) (λ q. rw q) (λ q. rw q)))
    (λ s. rw (s, find-replace r k d e (rw s at h) j) (swap x.key k j x.doc d (find_row r j) s))

find-fill : (r : List Row) (k : Key) (d : Doc) → find_row r k ≡ None → 0 < free_rows r → (j : Key) → find_row (fill r k d) j ≡ cond (same k j) (Some d) (find_row r j)
find-fill [] k d h f j = absurd (omega arith)
find-fill (None ∷ r) k d h f j = refl
find-fill (Some x ∷ r) k d h f j =
    cases (same x.key k)
    (λ s. none-some x.doc (sym (rw s at h)))
    (λ s. rw (find-fill r k d (rw s at h) f j) (swap x.key k j x.doc d (find_row r j) s))

free-replace : (r : List Row) (k : Key) (d : Doc) → free_rows (replace r k d) ≡ free_rows r
free-replace [] k d = refl
free-replace (None ∷ r) k d = ap suc (free-replace r k d)
free-replace (Some x ∷ r) k d = cases (same x.key k) (λ s. rw s) (λ s. rw s (free-replace r k d))

free-fill : (r : List Row) (k : Key) (d : Doc) → 0 < free_rows r → suc (free_rows (fill r k d)) ≡ free_rows r
free-fill [] k d f = omega arith
free-fill (None ∷ r) k d f = refl
free-fill (Some x ∷ r) k d f = free-fill r k d f

distinct-replace : (r : List Row) (k : Key) (d e : Doc) → find_row r k ≡ Some e → Distinct r → Distinct (replace r k d)
distinct-replace [] k d e h g = tt
distinct-replace (None ∷ r) k d e h g = distinct-replace r k d e h g
distinct-replace (Some x ∷ r) k d e h g =
    cases (same x.key k)
    (λ s. rw s (rw (same_true x.key k s) at g.0, g.1))
    (λ s. rw s (find-replace r k d e (rw s at h) x.key ∙ rw (same-flip x.key k s) g.0, distinct-replace r k d e (rw s at h) g.1))

distinct-fill : (r : List Row) (k : Key) (d : Doc) → find_row r k ≡ None → 0 < free_rows r → Distinct r → Distinct (fill r k d)
distinct-fill [] k d h f g = tt
distinct-fill (None ∷ r) k d h f g = (h, g)
distinct-fill (Some x ∷ r) k d h f g =
    cases (same x.key k)
    (λ s. none-some x.doc (sym (rw s at h)))
    (λ s. (find-fill r k d (rw s at h) f x.key ∙ rw (same-flip x.key k s) g.0, distinct-fill r k d (rw s at h) f g.1))

module _ (p : Doc → Bool) where
  find-purge : (r : List Row) → Distinct r → (k : Key) → find_row (purge_rows r p) k ≡ after_purge p (find_row r k)
  find-purge [] g k = refl
  find-purge (None ∷ r) g k = find-purge r g k
  find-purge (Some x ∷ r) g k =
      cases (same x.key k)
      (λ s. cases (p x.doc)
      (λ t. rw (s, t, find-purge r g.1 k, ← same_true x.key k s, g.0))
      (λ t. rw (s, t) (rw s)))
      (λ s. cases (p x.doc) (λ t. rw (s, t) (find-purge r g.1 k)) (λ t. rw (s, t) (rw s (find-purge r g.1 k))))

  distinct-purge : (r : List Row) → Distinct r → Distinct (purge_rows r p)
  distinct-purge [] g = tt
  distinct-purge (None ∷ r) g = distinct-purge r g
  distinct-purge (Some x ∷ r) g =
      cases (p x.doc)
      (λ t. rw t (distinct-purge r g.1))
      (λ t. rw t (find-purge r g.1 x.key ∙ ap (after_purge p) g.0, distinct-purge r g.1))

  pub length-purge : (ws : List Row) → length (purge_rows ws p) ≡ length ws
  length-purge [] = refl
  length-purge (None ∷ ws) = ap suc (length-purge ws)
  length-purge (Some x ∷ ws) = ap suc (length-purge ws)

-- the used rows' entries, and how many rows there are
find-used : (r : List Row) (k : Key) → find_row r k ≡ find_entry (used_rows r) k
find-used [] k = refl
find-used (None ∷ r) k = find-used r k
find-used (Some x ∷ r) k = ap (λ (o : Option Doc). cond (same x.key k) (Some x.doc) o) (find-used r k)

distinct-used : (r : List Row) → Distinct r → DistinctKeys (used_rows r)
distinct-used [] g = tt
distinct-used (None ∷ r) g = distinct-used r g
distinct-used (Some x ∷ r) g = (sym (find-used r x.key) ∙ g.0, distinct-used r g.1)

count-used : (r : List Row) → free_rows r + length (used_rows r) ≡ length r
count-used [] = refl
count-used (None ∷ r) = omega (arith, count-used r)
count-used (Some x ∷ r) = omega (arith, count-used r)

length-replace : (r : List Row) (k : Key) (d : Doc) → length (replace r k d) ≡ length r
length-replace [] k d = refl
length-replace (None ∷ r) k d = ap suc (length-replace r k d)
length-replace (Some x ∷ r) k d = cases (same x.key k) (λ s. rw s) (λ s. rw s (ap suc (length-replace r k d)))

length-fill : (r : List Row) (k : Key) (d : Doc) → length (fill r k d) ≡ length r
length-fill [] k d = refl
length-fill (None ∷ r) k d = refl
length-fill (Some x ∷ r) k d = ap suc (length-fill r k d)

pub plain-laws : Laws plain
plain-laws = record {
  good-put = λ r k d g room. options (find_row r k) (λ n. rw n (distinct-fill r k d n (room n) g)) (λ e s. rw s (distinct-replace r k d e s g));
  find-put = λ r k d g room j. options (find_row r k) (λ n. rw n (find-fill r k d n (room n) j)) (λ e s. rw s (find-replace r k d e s j));
  free_new = λ r k d g n f. rw n (free-fill r k d f);
  free-old = λ r k d e g s. rw s (free-replace r k d);
  good-purge = λ r p g. distinct-purge p r g;
  find-purge = λ r p g k. find-purge p r g k;
  find-docs = λ r g k. find-used r k;
  distinct-docs = λ r g. distinct-used r g;
  count = λ r g. count-used r;
  size-put = λ r k d g room. cases (is_some (find_row r k)) (λ t. rw t (length-replace r k d)) (λ t. rw t (length-fill r k d));
  size-purge = λ r p g. length-purge p r;
}
