-- Rows in key order: each row may stand after every row before it, and what a key's side of one row says of the rows after it.
use native.Mathlib.Omega.{arith}
use mathlib.Core.Path.{◌≡◌, refl, ◌∙◌}
use mathlib.Core.Bool.{true, ◌&&◌, false≢true}
use mathlib.Core.List.{List, [], ◌∷◌}
use Rattle.std.specs.Prelude.{Some, None}
use Rattle.std.specs.declared.cmp.Ordering.{Ordering}
use Rattle.std.specs.declared.cmp.Ordering.TheVariants.{Less, Greater}
use Prim.Native.Nat.{ℕ, zero, suc}
use lib.ListN.{replicate}
use Rattle.octets.proofs.Choices.{both}
use Rattle.keys.specs.Keys.{side_of}
use Rattle.keys.proofs.KeyLaws.{sides, side-refl, side-equal, side-flip, side-trans, below-side, transitive, greater-same}
use Rattle.document.specs.Documents.{Key}
use Rattle.rows.specs.Row.{Row}
use Rattle.rows.specs.Find.{find_row}
use Rattle.plain.specs.Plain.{Distinct}
use Rattle.ordered.specs.Order.{follows, ordered_from, ordered, row_side}
use Rattle.ordered.specs.Claims.{OrderedDistinct, FreshOrdered}

follows-trans : (a b c : Row) → follows a b ≡ true → follows b c ≡ true → follows a c ≡ true
follows-trans a b None p q = refl
follows-trans a None (Some z) p q = absurd (false≢true q)
follows-trans None (Some y) (Some z) p q = absurd (false≢true p)
follows-trans (Some x) (Some y) (Some z) p q = transitive x.key y.key z.key p q

-- every row of a list may stand after a row; each row of a list after all those before it
abbrev pub AllFollow : Row → List Row → Type 0
AllFollow w [] = Unit {0}
AllFollow w (v ∷ ws) = (follows w v ≡ true) × AllFollow w ws

abbrev pub EachFollows : List Row → Type 0
EachFollows [] = Unit {0}
EachFollows (w ∷ ws) = AllFollow w ws × EachFollows ws

pub follow-trans : (w v : Row) (ws : List Row) → follows w v ≡ true → AllFollow v ws → AllFollow w ws
follow-trans w v [] p a = tt
follow-trans w v (u ∷ ws) p a = (follows-trans w v u p a.0, follow-trans w v ws p a.1)

each_from : (w : Row) (ws : List Row) → ordered_from w ws ≡ true → EachFollows (w ∷ ws)
each_from w [] e = (tt, tt)
each_from w (v ∷ ws) e =
    let q = both (follows w v) (ordered_from v ws) e in
    let c = each_from v ws q.1 in
    ((q.0, follow-trans w v ws q.0 c.0), c)

from_each : (w : Row) (ws : List Row) → EachFollows (w ∷ ws) → ordered_from w ws ≡ true
from_each w [] c = refl
from_each w (v ∷ ws) c = λ i. c.0.0 i && from_each v ws c.1 i

-- the test of neighbours tells it of all rows
pub ordered-each : (ws : List Row) → ordered ws ≡ true → EachFollows ws
ordered-each [] e = tt
ordered-each (w ∷ ws) e = each_from w ws e

pub each-ordered : (ws : List Row) → EachFollows ws → ordered ws ≡ true
each-ordered [] c = refl
each-ordered (w ∷ ws) c = from_each w ws c

pub not-less : (o : Ordering) → o ≡ Greater → o ≡ Less → ⊥
not-less o g l = let z : ◌≡◌ {A = ℕ} 0 1 = cc in omega arith

-- after a row that isn't below the key all are above it, and the key isn't there
module _ (key : Key) where
  pub side_after : (w v : Row) → follows w v ≡ true → (row_side key w ≡ Less → ⊥) → row_side key v ≡ Greater
  side_after w None p n = refl
  side_after None (Some e) p n = absurd (false≢true p)
  side_after (Some d) (Some e) p n =
      let l = below-side d.key e.key p in
      sides (side_of d.key key)
      (λ q. absurd (n q))
      (λ q. let r : side_of key e.key ≡ Less = rw (← side-equal d.key key q) l in side-flip key e.key ∙ rw r)
      (λ q.
      let f : side_of key d.key ≡ Less = side-flip d.key key ∙ rw q in
      let r : side_of key e.key ≡ Less = side-trans key d.key e.key f l in
      side-flip key e.key ∙ rw r)

  pub not_after : (w : Row) (ws : List Row) → AllFollow w ws → (row_side key w ≡ Less → ⊥) → find_row ws key ≡ None
  not_after w [] a n = refl
  not_after w (None ∷ ws) a n = not_after w ws a.1 n
  not_after w (Some e ∷ ws) a n = rw (greater-same e.key key (side_after w (Some e) a.0 n)) (not_after w ws a.1 n)

pub ordered-distinct : OrderedDistinct
ordered-distinct r o = distinct-each r (ordered-each r o)
  where
    own-side : (key : Key) → side_of key key ≡ Less → ⊥
    own-side key l = let q = side-refl key in let z : ◌≡◌ {A = ℕ} 0 1 = cc in omega arith

    distinct-each : (ws : List Row) → EachFollows ws → Distinct ws
    distinct-each [] c = tt
    distinct-each (None ∷ ws) c = distinct-each ws c.1
    distinct-each (Some x ∷ ws) c = (not_after x.key (Some x) ws c.0 (own-side x.key), distinct-each ws c.1)

-- free rows
pub follow-free : (w : Row) (n : ℕ) → AllFollow w (replicate n None)
follow-free w zero = tt
follow-free w (suc n) = (refl, follow-free w n)

pub each_free : (n : ℕ) → EachFollows (replicate n None)
each_free zero = tt
each_free (suc n) = (follow-free None n, each_free n)

pub fresh-ordered : FreshOrdered
fresh-ordered n state mode vbucket = each-ordered (replicate n None) (each_free n)
