-- Which keys the live ones from a start key on are: specs/Listing.antt `keys_from`.
use native.Mathlib.Omega.{arith}
use Prim.Native.Nat.{ℕ, ◌≤◌}
use mathlib.Core.Path.{◌≡◌, sym, ap, ◌∙◌}
use mathlib.Core.Logic.{◌⊎◌, inl, inr, ⊎_elim}
use mathlib.Core.Bool.{true, false}
use mathlib.Core.List.{List, [], ◌∷◌}
use Rattle.std.specs.Prelude.{Some, None}
use lib.ListN.{length}
use Rattle.octets.specs.Compare.{same}
use Rattle.octets.proofs.Choices.{cases}
use Rattle.octets.proofs.Options.{none-some}
use Rattle.octets.proofs.Tests.{same_true, same_refl}
use Rattle.keys.specs.Keys.{key_below}
use Rattle.document.specs.Documents.{Key, Doc, Entry}
use Rattle.document.specs.Stored.{stored_of, live}
use Rattle.engine.specs.Engine.{find_entry, DistinctKeys}
use Rattle.listing.specs.Listing.{live_keys, insert_key, sort_keys, from_key, keys_from}
use Rattle.listing.specs.Claims.{OneOf, Rising, Lists}
use Rattle.listing.proofs.Members.{Once, sort-one, one-sort, sort-rising, from_one, one_from, from-rising, from-after, from-again}

-- a key's document that is live
pub record Alive (docs : List Entry) (clock : ℕ) (k : Key) : Type 0 where
  pub doc : Doc
  pub found : find_entry docs k ≡ Some doc
  pub live : live (stored_of (Some doc)) clock ≡ true

module _ (clock : ℕ) where
  -- an entry's document is the one found: no later entry has its key
  other_key : (e : Entry) (es : List Entry) (k : Key) (d : Doc) → find_entry es e.key ≡ None → find_entry es k ≡ Some d → same e.key k ≡ false
  other_key e es k d n f =
      cases (same e.key k) (λ s. none-some d (sym n ∙ ap (find_entry es) (same_true e.key k s) ∙ f)) (λ s. s)

  here : (e : Entry) (es : List Entry) (k : Key) → k ≡ e.key → find_entry (e ∷ es) k ≡ Some e.doc
  here e es k q = let s : same e.key k ≡ true = ap (same e.key) q ∙ same_refl e.key in rw s

  alive-later : (e : Entry) (es : List Entry) (k : Key) → find_entry es e.key ≡ None → Alive es clock k → Alive (e ∷ es) clock k
  alive-later e es k n a = record { doc = a.doc; found = rw (other_key e es k a.doc n a.found) a.found; live = a.live }

  pub one-live : (docs : List Entry) (k : Key) → DistinctKeys docs → OneOf k (live_keys clock docs) → Alive docs clock k
  one-live [] k g m = absurd m
  one-live (e ∷ es) k g m =
      cases (live (stored_of (Some e.doc)) clock)
      (λ t.
      let n : (k ≡ e.key) ⊎ OneOf k (live_keys clock es) = rw t at m in
      ⊎_elim
      (λ q. record { doc = e.doc; found = here e es k q; live = t })
      (λ l. alive-later e es k g.0 (one-live es k g.1 l))
      n)
      (λ f. alive-later e es k g.0 (one-live es k g.1 (rw f at m)))

  pub live-one : (docs : List Entry) (k : Key) (d : Doc) → find_entry docs k ≡ Some d → live (stored_of (Some d)) clock ≡ true → OneOf k (live_keys clock docs)
  live-one [] k d f l = none-some d f
  live-one (e ∷ es) k d f l =
      cases (same e.key k)
      (λ s.
      let q : Some e.doc ≡ Some d = rw s at f in
      let p : e.doc ≡ d = cc in
      let t : live (stored_of (Some e.doc)) clock ≡ true = rw p l in
      rw t (inl (sym (same_true e.key k s))))
      (λ s.
      let m = live-one es k d (rw s at f) l in
      cases (live (stored_of (Some e.doc)) clock) (λ t. rw t (inr m)) (λ t. rw t m))

  once-live : (docs : List Entry) → DistinctKeys docs → Once (live_keys clock docs)
  once-live [] g = tt
  once-live (e ∷ es) g =
      cases (live (stored_of (Some e.doc)) clock)
      (λ t.
      let n : OneOf e.key (live_keys clock es) → ⊥ = λ m. let a = one-live es e.key g.1 m in none-some a.doc (sym g.0 ∙ a.found) in
      rw t (n, once-live es g.1))
      (λ f. rw f (once-live es g.1))

  sorted-rising : (docs : List Entry) → DistinctKeys docs → Rising (sort_keys (live_keys clock docs))
  sorted-rising docs g = sort-rising (live_keys clock docs) (once-live docs g)

  -- ---- exactly the live keys at or after the start key, ascending
  pub keys-rising : (docs : List Entry) (start : Key) → DistinctKeys docs → Rising (keys_from docs clock start)
  unfolding keys_from
  keys-rising docs start g = from-rising start (sort_keys (live_keys clock docs)) (sorted-rising docs g)

  pub keys-lists : (docs : List Entry) (start k : Key) → DistinctKeys docs → OneOf k (keys_from docs clock start) → Lists docs clock start k
  unfolding keys_from
  keys-lists docs start k g m =
      let sorted = sort_keys (live_keys clock docs) in
      let a = one-live docs k g (one-sort k (live_keys clock docs) (one_from start k sorted m)) in
      record { doc = a.doc; found = a.found; live = a.live; after = from-after start k sorted (sorted-rising docs g) m }

  pub lists-keys : (docs : List Entry) (start k : Key) → Lists docs clock start k → OneOf k (keys_from docs clock start)
  unfolding keys_from
  lists-keys docs start k l =
      from_one start k (sort_keys (live_keys clock docs)) (sort-one k (live_keys clock docs) (live-one docs k l.doc l.found l.live)) l.after

  -- from a later start key on
  pub keys-again : (docs : List Entry) (start last : Key) → key_below last start ≡ false → from_key last (keys_from docs clock start) ≡ keys_from docs clock last
  unfolding keys_from
  keys-again docs start last p = from-again start last (sort_keys (live_keys clock docs)) p

-- no more keys than documents
live-many : (clock : ℕ) (docs : List Entry) → length (live_keys clock docs) ≤ length docs
live-many clock [] = omega arith
live-many clock (e ∷ es) =
    cases (live (stored_of (Some e.doc)) clock)
    (λ t. rw t (omega (arith, live-many clock es)))
    (λ f. rw f (omega (arith, live-many clock es)))

insert-many : (k : Key) (xs : List Key) → length (insert_key k xs) ≤ length (k ∷ xs)
insert-many k [] = omega arith
insert-many k (x ∷ xs) = cases (key_below x k) (λ t. rw t (omega (arith, insert-many k xs))) (λ f. rw f (omega arith))

sort-many : (xs : List Key) → length (sort_keys xs) ≤ length xs
sort-many [] = omega arith
sort-many (x ∷ xs) = omega (arith, insert-many x (sort_keys xs), sort-many xs)

from-many : (start : Key) (xs : List Key) → length (from_key start xs) ≤ length xs
from-many start [] = omega arith
from-many start (x ∷ xs) = cases (key_below x start) (λ t. rw t (omega (arith, from-many start xs))) (λ f. rw f (omega arith))

pub keys-many : (docs : List Entry) (clock : ℕ) (start : Key) → length (keys_from docs clock start) ≤ length docs
unfolding keys_from
keys-many docs clock start =
    let ks = live_keys clock docs in
    omega (arith, from-many start (sort_keys ks), sort-many ks, live-many clock docs)
