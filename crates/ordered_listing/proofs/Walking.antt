-- The live rows from a place on: whether the row there is live, its key, and the keys of the rows after it.
use native.Mathlib.Omega.{arith}
use Prim.Native.Nat.{ℕ, ◌+◌, ◌≤◌, ◌<◌}
use mathlib.Core.Path.{◌≡◌, refl, sym, ap, ◌∙◌}
use mathlib.Core.Bool.{true, false, not, ◌&&◌, false≢true}
use mathlib.Core.List.{List, [], ◌∷◌, map}
use Rattle.std.specs.Prelude.{Some, None}
use lib.Dec.{eqb}
use lib.ListN.{length, drop, get_or, get_or-map, length-map, drop_of_length-le}
use Rattle.std.proofs.lemmas.List.{drop_more}
use borrow.Author.Tests.{eqb-true, eqb-false, lt-ltb, le-ltb}
use Rattle.octets.specs.BigEndian.{num}
use Rattle.octets.proofs.Choices.{cases}
use Rattle.document.specs.Documents.{Key}
use Rattle.document.specs.Stored.{alive}
use Rattle.listing.specs.Listing.{taken, keys_bytes}
use Rattle.rows.specs.Row.{Row, key_of, row_of}
use Rattle.rows.specs.Table.{table_of}
use Rattle.rows.proofs.OneRow.{no_row, row-free, row-used, row-alive}
use Rattle.ordered_lookup.specs.Halving.{first_from}
use Rattle.ordered_listing.specs.Walk.{is_live, keys_live, keys_walked}

module _ (clock : ℕ) where
  -- one row, and the rows after it
  module _ (r : List ℕ) where
    pub live-read : (kind expiry : ℕ) → kind ≡ num r 0 2 → expiry ≡ num r 12 4 → (not (eqb kind 0) && alive (eqb kind 2) expiry clock) ≡ is_live clock (row_of r)
    live-read kind expiry k e =
        cases (eqb (num r 0 2) 0)
        (λ t. rw (row-free r (eqb-true (num r 0 2) 0 t), k, t))
        (λ f. rw (row-used r (eqb-false (num r 0 2) 0 f), row-alive r clock kind expiry k e, k, f))

    row-live : (ws : List Row) → is_live clock (row_of r) ≡ true → keys_live clock (row_of r ∷ ws) ≡ key_of r ∷ keys_live clock ws
    row-live ws e =
        cases (eqb (num r 0 2) 0)
        (λ t. absurd (false≢true (sym (ap (is_live clock) (row-free r (eqb-true (num r 0 2) 0 t))) ∙ e)))
        (λ f. let u = row-used r (eqb-false (num r 0 2) 0 f) in let l = sym (ap (is_live clock) u) ∙ e in rw (u, l))

  row-dead : (w : Row) (ws : List Row) → is_live clock w ≡ false → keys_live clock (w ∷ ws) ≡ keys_live clock ws
  row-dead None ws e = refl
  row-dead (Some x) ws e = rw e

  -- rows from a place on
  module _ (rs : List (List ℕ)) where
    abbrev pub live_from : ℕ → List Key
    live_from i = keys_live clock (drop i (map row_of rs))

    pub none_from : (i : ℕ) → length rs ≤ i → live_from i ≡ []
    none_from i h = ap (keys_live clock) (drop_of_length-le (map row_of rs) (omega (arith, length-map rs row_of)))

    module _ (i : ℕ) (h : i < length rs) where
      abbrev row : List ℕ
      row = get_or rs i []

      row_here : drop i (map row_of rs) ≡ row_of row ∷ drop (i + 1) (map row_of rs)
      row_here =
          let k : i < length (map row_of rs) = omega (arith, length-map rs row_of) in
          drop_more (map row_of rs) i None k ∙ ap (λ (w : Row). w ∷ drop (i + 1) (map row_of rs)) (rw no_row at (get_or-map row_of rs i []))

      pub passed_over : is_live clock (row_of row) ≡ false → live_from i ≡ live_from (i + 1)
      passed_over e = ap (keys_live clock) row_here ∙ row-dead (row_of row) (drop (i + 1) (map row_of rs)) e

      pub next-live : is_live clock (row_of row) ≡ true → (k : Key) → k ≡ key_of row → live_from i ≡ k ∷ live_from (i + 1)
      next-live e k q =
          let ws = drop (i + 1) (map row_of rs) in
          ap (keys_live clock) row_here ∙ row-live row ws e ∙ ap (λ (x : Key). x ∷ keys_live clock ws) (sym q)

-- what is written, by the room
module _ (room : ℕ) (b : List ℕ) (clock : ℕ) (start : Key) (count : ℕ) where
  pub walked_none : room < 1302 → keys_walked room b clock start count ≡ []
  unfolding keys_walked
  walked_none h = rw (lt-ltb room 1302 h)

  pub walked_all : 1302 ≤ room → keys_walked room b clock start count ≡ keys_bytes (taken count 1278 (keys_live clock (drop (first_from start (table_of b).rows) (table_of b).rows)))
  unfolding keys_walked
  walked_all h = rw (le-ltb room 1302 h)
