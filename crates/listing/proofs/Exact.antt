-- A listing shows exactly the live keys, and depends on nothing but the documents: specs/Claims.antt.
use Prim.Native.Nat.{ℕ}
use mathlib.Core.Path.{◌≡◌, refl, sym, ap, ◌∙◌}
use mathlib.Core.Logic.{inl, ⊎_elim}
use mathlib.Core.Bool.{false≢true}
use mathlib.Core.List.{List, [], ◌∷◌, ◌++◌}
use Rattle.keys.specs.Keys.{key_below}
use Rattle.keys.proofs.KeyLaws.{irreflexive}
use Rattle.document.specs.Documents.{Key, Entry}
use Rattle.engine.specs.Engine.{find_entry, DistinctKeys}
use Rattle.listing.specs.Listing.{taken, keys_bytes, keys_from, listed_keys, listing}
use Rattle.listing.specs.Claims.{OneOf, Rising, Lists, LeftOut, ListsExactly, ByDocuments}
use Rattle.listing.proofs.Sorting.{not-both}
use Rattle.listing.proofs.Members.{one-first, one-second, one-joined, rising-first, rising-second, rising-apart, below_one, rising-same}
use Rattle.listing.proofs.Taken.{left, taken-left, taken-few, left-stopped, listing-short}
use Rattle.listing.proofs.LiveKeys.{keys-rising, keys-lists, lists-keys}

-- the keys that a listing does not show
unfoldable pub left_keys : List Entry → ℕ → Key → ℕ → List Key
left_keys docs clock start count = left count 1278 (keys_from docs clock start)

pub shown-left : (docs : List Entry) (clock : ℕ) (start : Key) (count : ℕ) → listed_keys docs clock start count ++ left_keys docs clock start count ≡ keys_from docs clock start
unfolding listed_keys left_keys
shown-left docs clock start count = taken-left count 1278 (keys_from docs clock start)

-- by whether there is a first key, with the equation
pub lists {ℓ} : {X : Type ℓ} (ks : List Key) → (ks ≡ [] → X) → ((c : Key) (cs : List Key) → ks ≡ c ∷ cs → X) → X
lists [] f g = f refl
lists (c ∷ cs) f g = g c cs refl

module _ (docs : List Entry) (clock : ℕ) (start : Key) (count : ℕ) (g : DistinctKeys docs) where
  joined-rising : Rising (listed_keys docs clock start count ++ left_keys docs clock start count)
  joined-rising = rw (shown-left docs clock start count) (keys-rising clock docs start g)

  pub shown-lists : (k : Key) → OneOf k (listed_keys docs clock start count) → Lists docs clock start k
  shown-lists k m =
      keys-lists clock docs start k g
      (rw (shown-left docs clock start count) at (one-first k (listed_keys docs clock start count) (left_keys docs clock start count) m))

  -- the keys left out are after all that are shown, and the first of them is the least
  first_out : (k c : Key) (cs : List Key) → left_keys docs clock start count ≡ c ∷ cs → OneOf k (left_keys docs clock start count) → LeftOut docs clock start count k
  unfolding left_keys listed_keys listing
  first_out k c cs e m =
      let shown = listed_keys docs clock start count in
      let out = left_keys docs clock start count in
      let r = joined-rising in
      let first : OneOf c out = rw e (inl refl) in
      let rise : Rising (c ∷ cs) = rw e at (rising-second shown out r) in
      let n : OneOf k (c ∷ cs) = rw e at m in
      record {
        after = λ x s. rising-apart x k shown out r s m;
        first = c;
        first-lists = keys-lists clock docs start c g (rw (shown-left docs clock start count) at (one-second c shown out first));
        first_out = λ s. false≢true (sym (irreflexive c) ∙ rising-apart c c shown out r s first);
        first-least = ⊎_elim (λ q. ap (λ (j : Key). key_below j c) q ∙ irreflexive c) (λ l. not-both c k (below_one c k cs rise.0 l)) n;
        stopped = left-stopped count 1278 (keys_from docs clock start) c cs e;
      }

  unshown : (k : Key) → Lists docs clock start k → (OneOf k (listed_keys docs clock start count) → ⊥) → LeftOut docs clock start count k
  unshown k l n =
      let m : OneOf k (listed_keys docs clock start count ++ left_keys docs clock start count) =
      rw (shown-left docs clock start count) (lists-keys clock docs start k l) in
      let out : OneOf k (left_keys docs clock start count) = ⊎_elim (λ s. absurd (n s)) (λ o. o) (one-joined k (listed_keys docs clock start count) (left_keys docs clock start count) m) in
      lists (left_keys docs clock start count)
      (λ e. let z : OneOf k [] = rw e at out in absurd z)
      (λ c cs e. first_out k c cs e out)

pub lists-exactly : ListsExactly
unfolding listed_keys
lists-exactly docs clock start count g = record {
  only = shown-lists docs clock start count g;
  rest = unshown docs clock start count g;
  rising = rising-first (listed_keys docs clock start count) (left_keys docs clock start count) (joined-rising docs clock start count g);
  few = taken-few count 1278 (keys_from docs clock start);
  short = listing-short docs clock start count;
}

-- ---- two stores with the same documents
lists-alike : (docs others : List Entry) (clock : ℕ) (start k : Key) → ((j : Key) → find_entry docs j ≡ find_entry others j) → Lists docs clock start k → Lists others clock start k
lists-alike docs others clock start k q l = record { doc = l.doc; found = sym (q k) ∙ l.found; live = l.live; after = l.after }

pub keys-alike : (docs others : List Entry) → DistinctKeys docs → DistinctKeys others → ((k : Key) → find_entry docs k ≡ find_entry others k)
    → (clock : ℕ) (start : Key) → keys_from docs clock start ≡ keys_from others clock start
keys-alike docs others g h q clock start =
    rising-same (keys_from docs clock start) (keys_from others clock start) (keys-rising clock docs start g) (keys-rising clock others start h)
    (λ k m. lists-keys clock others start k (lists-alike docs others clock start k q (keys-lists clock docs start k g m)))
    (λ k m. lists-keys clock docs start k (lists-alike others docs clock start k (λ j. sym (q j)) (keys-lists clock others start k h m)))

pub by-documents : ByDocuments
unfolding listing listed_keys
by-documents docs others g h q clock start count = ap (λ (ks : List Key). keys_bytes (taken count 1278 ks)) (keys-alike docs others g h q clock start)
