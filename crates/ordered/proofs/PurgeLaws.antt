-- A purge of rows in key order: what is found, how many rows there are, and that they stay in order.
use native.Mathlib.Omega.{arith}
use mathlib.Core.Path.{◌≡◌, refl, ap, ◌∙◌}
use mathlib.Core.Bool.{Bool, true, cond}
use mathlib.Core.List.{List, [], ◌∷◌, ◌++◌}
use Rattle.std.specs.Prelude.{Option, Some, None}
use Prim.Native.Nat.{ℕ, zero, suc, ◌+◌, ◌-◌, ◌≤◌}
use lib.ListN.{length, replicate, length-append, length-replicate}
use Rattle.octets.specs.Compare.{same}
use Rattle.octets.proofs.Choices.{cases}
use Rattle.document.specs.Documents.{Key, Doc}
use Rattle.rows.specs.Row.{Row}
use Rattle.rows.specs.Find.{find_row}
use Rattle.plain.specs.Plain.{purge_rows}
use Rattle.ordered.specs.Order.{ordered}
use Rattle.ordered.specs.Purge.{stays, staying_rows, purge_ordered}
use Rattle.ordered.proofs.OrderLaws.{AllFollow, EachFollows, ordered-each, each-ordered, follow-free, each_free}

-- free rows at the end
module _ (n : ℕ) where
  find-free : (m : ℕ) (k : Key) → find_row (replicate m None) k ≡ None
  find-free zero k = refl
  find-free (suc m) k = find-free m k

  find-append : (ws : List Row) (k : Key) → find_row (ws ++ replicate n None) k ≡ find_row ws k
  find-append [] k = find-free n k
  find-append (None ∷ ws) k = find-append ws k
  find-append (Some x ∷ ws) k = ap (λ (o : Option Doc). cond (same x.key k) (Some x.doc) o) (find-append ws k)

  follow-append : (w : Row) (ws : List Row) → AllFollow w ws → AllFollow w (ws ++ replicate n None)
  follow-append w [] a = follow-free w n
  follow-append w (v ∷ ws) a = (a.0, follow-append w ws a.1)

  each_append : (ws : List Row) → EachFollows ws → EachFollows (ws ++ replicate n None)
  each_append [] c = each_free n
  each_append (v ∷ ws) c = (follow-append v ws c.0, each_append ws c.1)

module _ (p : Doc → Bool) where
  -- the rows that stay are those that the plain engine's purge leaves
  find-staying : (ws : List Row) (k : Key) → find_row (staying_rows p ws) k ≡ find_row (purge_rows ws p) k
  find-staying [] k = refl
  find-staying (None ∷ ws) k = find-staying ws k
  find-staying (Some x ∷ ws) k =
      cases (p x.doc)
      (λ t. rw t (find-staying ws k))
      (λ f. rw f (ap (λ (o : Option Doc). cond (same x.key k) (Some x.doc) o) (find-staying ws k)))

  follow-staying : (w : Row) (ws : List Row) → AllFollow w ws → AllFollow w (staying_rows p ws)
  follow-staying w [] a = tt
  follow-staying w (v ∷ ws) a = cases (stays p v) (λ t. rw t (a.0, follow-staying w ws a.1)) (λ f. rw f (follow-staying w ws a.1))

  each-staying : (ws : List Row) → EachFollows ws → EachFollows (staying_rows p ws)
  each-staying [] c = tt
  each-staying (v ∷ ws) c = cases (stays p v) (λ t. rw t (follow-staying v ws c.0, each-staying ws c.1)) (λ f. rw f (each-staying ws c.1))

  pub few-stay : (ws : List Row) → length (staying_rows p ws) ≤ length ws
  few-stay [] = omega arith
  few-stay (v ∷ ws) = cases (stays p v) (λ t. rw t (omega (arith, few-stay ws))) (λ f. rw f (omega (arith, few-stay ws)))

  module _ (ws : List Row) where
    abbrev staying : List Row
    staying = staying_rows p ws

    abbrev freed : ℕ
    freed = length ws - length staying

    pub purge-found : (k : Key) → find_row (purge_ordered ws p) k ≡ find_row (purge_rows ws p) k
    purge-found k = find-append freed staying k ∙ find-staying ws k

    pub length-purged : length (purge_ordered ws p) ≡ length ws
    length-purged =
        let a : length (purge_ordered ws p) ≡ length staying + length (replicate {A = Row} freed None) = length-append staying (replicate freed None) in
        let b : length (replicate {A = Row} freed None) ≡ freed = length-replicate freed None in
        omega (arith, few-stay ws)

    pub ordered-purge : ordered ws ≡ true → ordered (purge_ordered ws p) ≡ true
    ordered-purge o = each-ordered (purge_ordered ws p) (each_append freed staying (each-staying ws (ordered-each ws o)))
