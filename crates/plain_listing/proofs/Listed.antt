-- What a row says of a listing: its key, and whether it is listed; the keys of the rows that are listed, one row after the other and all.
use Prim.Native.Nat.{ℕ, ◌+◌, ◌-◌, ◌*◌, ◌≤◌, ◌<◌}
use mathlib.Core.Path.{◌≡◌, refl, sym, ap, ◌∙◌}
use mathlib.Core.Bool.{Bool, true, false, not, ◌||◌, false≢true}
use mathlib.Core.List.{List, [], ◌∷◌}
use Rattle.std.specs.Prelude.{Some, None}
use native.Mathlib.Omega.{arith}
use lib.Dec.{eqb, ltb}
use lib.ListN.{length, drop}
use borrow.Author.Tests.{eqb-true, eqb-false}
use Rattle.octets.specs.Parts.{part}
use Rattle.octets.specs.BigEndian.{num}
use Rattle.octets.proofs.Choices.{cases}
use Rattle.keys.specs.Keys.{key_below}
use Rattle.document.specs.Documents.{Key}
use Rattle.document.specs.Stored.{stored_of, alive, live}
use Rattle.listing.specs.Listing.{live_keys, insert_key, sort_keys, from_key, keys_bytes, taken, keys_from, listed_keys, listing}
use Rattle.listing.proofs.Sorting.{from-insert}
use Rattle.rows.specs.Row.{Row, key_of, row_of}
use Rattle.rows.specs.Table.{row_count, row_at, rows_of, table_of}
use Rattle.rows.proofs.OneRow.{row-free, row-used, row-alive, row-there, row-size, key-inside, first-row}
use Rattle.plain.specs.Plain.{used_rows}
use Rattle.plain_listing.specs.Places.{key_at, is_listed, row_key, with_key, keys_listed, fitting_keys}

-- the key of a row that was cut out at its place
pub key-cut : (b r : List ℕ) (i : ℕ) → i < row_count b → r ≡ part b (16 + i * 1312) 1312 → key_of r ≡ key_at b i
unfolding key_at
key-cut b r i h e = ap key_of (e ∙ sym (row-there b i h))

pub key-short : (b : List ℕ) (i : ℕ) → i < row_count b → length (key_at b i) ≤ 1280
unfolding key_at
key-short b i h = key-inside (row_at b i) (omega (arith, row-size b i h))

module _ (clock : ℕ) (start : Key) (r : List ℕ) where
  pub listed_free : num r 0 2 ≡ 0 → is_listed clock start (row_of r) ≡ false
  listed_free e = rw (row-free r e)

  module _ (u : num r 0 2 ≡ 0 → ⊥) where
    pub listed-dead : (kind expiry : ℕ) → kind ≡ num r 0 2 → expiry ≡ num r 12 4 → alive (eqb kind 2) expiry clock ≡ false → is_listed clock start (row_of r) ≡ false
    listed-dead kind expiry k x e = rw (row-used r u, row-alive r clock kind expiry k x, e)

    pub listed-live : (kind expiry : ℕ) → kind ≡ num r 0 2 → expiry ≡ num r 12 4 → alive (eqb kind 2) expiry clock ≡ true
        → is_listed clock start (row_of r) ≡ not (key_below (key_of r) start)
    listed-live kind expiry k x e = rw (row-used r u, row-alive r clock kind expiry k x, e)

    pub listed-key : row_key (row_of r) ≡ key_of r
    listed-key = rw (row-used r u)

module _ (clock : ℕ) (start : Key) where
  -- a row's key put among keys, where it is listed
  module _ (b : List ℕ) (i : ℕ) (ks : List Key) where
    pub with_none : is_listed clock start (row_of (row_at b i)) ≡ false → with_key clock start (row_of (row_at b i)) ks ≡ ks
    with_none e = rw e

    pub with-one : is_listed clock start (row_of (row_at b i)) ≡ true → with_key clock start (row_of (row_at b i)) ks ≡ insert_key (key_at b i) ks
    unfolding key_at
    with-one e =
        let r = row_at b i in
        cases (eqb (num r 0 2) 0)
        (λ t. absurd (false≢true (sym (listed_free clock start r (eqb-true (num r 0 2) 0 t)) ∙ e)))
        (λ f. rw e (ap (λ (k : Key). insert_key k ks) (listed-key clock start r (eqb-false (num r 0 2) 0 f))))

  with_row : (w : Row) (ws : List Row) → with_key clock start w (sort_keys (keys_listed clock start ws)) ≡ sort_keys (keys_listed clock start (w ∷ ws))
  with_row w ws = cases (is_listed clock start w) (λ t. rw t) (λ f. rw f)

  -- rows from the last to the first: none, one more, and all
  module _ (b : List ℕ) (n : ℕ) where
    abbrev pub sorted_from : ℕ → List Key
    sorted_from i = sort_keys (keys_listed clock start (rows_of (n - i) (drop (16 + i * 1312) b)))

    pub sorted_none : sorted_from n ≡ []
    sorted_none = let z : n - n ≡ 0 = omega arith in rw z

    pub sorted_more : (i : ℕ) → 0 < i → i ≤ n → n ≡ row_count b → with_key clock start (row_of (row_at b (i - 1))) (sorted_from i) ≡ sorted_from (i - 1)
    sorted_more i h k e =
        let at = 16 + (i - 1) * 1312 in
        let m : n - i + 1 ≡ n - (i - 1) = omega arith in
        let a : at + 1312 ≡ 16 + i * 1312 = omega arith in
        let rows : rows_of (n - (i - 1)) (drop at b) ≡ row_of (row_at b (i - 1)) ∷ rows_of (n - i) (drop (16 + i * 1312) b) =
        sym (ap (λ (x : ℕ). rows_of x (drop at b)) m) ∙ first-row b at (n - i)
        ∙ (λ j. row_of (sym (row-there b (i - 1) (omega arith)) j) ∷ rows_of (n - i) (drop (a j) b)) in
        with_row (row_of (row_at b (i - 1))) (rows_of (n - i) (drop (16 + i * 1312) b)) ∙ ap (λ (ws : List Row). sort_keys (keys_listed clock start ws)) (sym rows)

    pub sorted_all : n ≡ row_count b → sorted_from 0 ≡ sort_keys (keys_listed clock start (table_of b).rows)
    unfolding table_of
    sorted_all e = let m : n - 0 ≡ row_count b = omega (arith, e) in λ j. sort_keys (keys_listed clock start (rows_of (m j) (drop 16 b)))

  -- those are the live keys from the start key on
  pub listed-from : (ws : List Row) → sort_keys (keys_listed clock start ws) ≡ from_key start (sort_keys (live_keys clock (used_rows ws)))
  listed-from [] = refl
  listed-from (None ∷ ws) = listed-from ws
  listed-from (Some e ∷ ws) =
      let ks = sort_keys (live_keys clock (used_rows ws)) in
      cases (live (stored_of (Some e.doc)) clock)
      (λ t. cases (key_below e.key start)
      (λ u. rw (t, u) (listed-from ws ∙ sym (from-insert start e.key ks ∙ rw u)))
      (λ f. rw (t, f) (ap (insert_key e.key) (listed-from ws) ∙ sym (from-insert start e.key ks ∙ rw f))))
      (λ f. rw f (listed-from ws))

-- the listing of a table's documents, where it has room
module _ (room : ℕ) (b : List ℕ) (clock : ℕ) (start : Key) (count n : ℕ) (c : n ≡ row_count b) where
  abbrev too_small : Bool
  too_small = ltb room 1302 || ltb 256 n

  small : (t : Bool) → too_small ≡ t → (ltb room 1302 || ltb 256 (row_count b)) ≡ t
  small t e = ap (λ (m : ℕ). ltb room 1302 || ltb 256 m) (sym c) ∙ e

  pub fitting-none : too_small ≡ true → fitting_keys room b clock start count ≡ []
  unfolding fitting_keys
  fitting-none e = rw (small true e)

  pub fitting-all : too_small ≡ false → fitting_keys room b clock start count ≡ keys_bytes (taken count 1278 (sort_keys (keys_listed clock start (table_of b).rows)))
  unfolding fitting_keys listing listed_keys keys_from
  fitting-all e = rw (small false e) (ap (λ (ks : List Key). keys_bytes (taken count 1278 ks)) (sym (listed-from clock start (table_of b).rows)))
