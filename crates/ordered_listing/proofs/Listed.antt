-- On rows in key order the walk writes the listing: their live keys rise, so that sorting changes nothing, and a row is below the start key exactly before the first row that isn't.
use Prim.Native.Nat.{ℕ}
use mathlib.Core.Path.{◌≡◌, refl, sym, ap, ◌∙◌}
use mathlib.Core.Bool.{false, false≢true}
use mathlib.Core.List.{List, [], ◌∷◌}
use Rattle.std.specs.Prelude.{Some, None}
use Rattle.std.specs.declared.cmp.Ordering.TheVariants.{Less, Greater}
use lib.ListN.{drop}
use Rattle.octets.proofs.Choices.{cases}
use Rattle.keys.specs.Keys.{side_of, key_below}
use Rattle.keys.proofs.KeyLaws.{sides}
use Rattle.document.specs.Documents.{Key, Entry}
use Rattle.listing.specs.Listing.{from_key, taken, keys_bytes, keys_from, listed_keys, listing}
use Rattle.listing.specs.Order.{NoneBelow}
use Rattle.listing.specs.Claims.{BelowAll, Rising}
use Rattle.listing.proofs.Members.{sort-same, from_all}
use Rattle.rows.specs.Row.{Row}
use Rattle.rows.specs.Table.{table_of}
use Rattle.ordered.specs.Order.{row_side}
use Rattle.ordered.specs.Insert.{rows_below}
use Rattle.ordered.proofs.OrderLaws.{AllFollow, EachFollows, ordered-each, side_after, not-less}
use Rattle.ordered_lookup.proofs.PlaceLaws.{first-past-below}
use Rattle.ordered_listing.specs.Walk.{is_live, keys_live}
use Rattle.ordered_listing.specs.Claims.{WalksListing}
use Rattle.ordered_listing.proofs.Walking.{walked_all}

module _ (clock : ℕ) where
  below-live : (x : Entry) (ws : List Row) → AllFollow (Some x) ws → BelowAll x.key (keys_live clock ws)
  below-live x [] a = tt
  below-live x (None ∷ ws) a = below-live x ws a.1
  below-live x (Some y ∷ ws) a =
      let b = below-live x ws a.1 in
      cases (is_live clock (Some y)) (λ t. rw t (a.0, b)) (λ f. rw f b)

  live-rising : (ws : List Row) → EachFollows ws → Rising (keys_live clock ws)
  live-rising [] c = tt
  live-rising (None ∷ ws) c = live-rising ws c.1
  live-rising (Some x ∷ ws) c =
      let r = live-rising ws c.1 in
      cases (is_live clock (Some x)) (λ t. rw t (below-live x ws c.0, r)) (λ f. rw f r)

  module _ (start : Key) where
    -- from a row on that isn't below the start key none is
    none_after : (w : Row) (ws : List Row) → AllFollow w ws → (row_side start w ≡ Less → ⊥) → NoneBelow start (keys_live clock ws)
    none_after w [] a n = tt
    none_after w (None ∷ ws) a n = none_after w ws a.1 n
    none_after w (Some x ∷ ws) a n =
        let k : key_below x.key start ≡ false = rw (side_after start w (Some x) a.0 n) in
        let r = none_after w ws a.1 n in
        cases (is_live clock (Some x)) (λ t. rw t (k, r)) (λ f. rw f r)

    all_after : (x : Entry) (ws : List Row) → AllFollow (Some x) ws → key_below x.key start ≡ false
        → keys_live clock (Some x ∷ ws) ≡ from_key start (keys_live clock (Some x ∷ ws))
    all_after x ws a k =
        let r = none_after (Some x) ws a (λ l. false≢true (sym k ∙ rw l)) in
        cases (is_live clock (Some x)) (λ t. rw (t, k)) (λ f. rw f (sym (from_all start (keys_live clock ws) r)))

    walk_from : (ws : List Row) → EachFollows ws → keys_live clock (drop (rows_below start ws) ws) ≡ from_key start (keys_live clock ws)
    walk_from [] c = refl
    walk_from (None ∷ ws) c = sym (from_all start (keys_live clock ws) (none_after None ws c.0 (not-less Greater refl)))
    walk_from (Some x ∷ ws) c =
        sides (side_of x.key start)
        (λ l. rw l (walk_from ws c.1 ∙ cases (is_live clock (Some x)) (λ t. rw (t, l)) (λ f. rw f)))
        (λ e. rw e (all_after x ws c.0 (rw e)))
        (λ g. rw g (all_after x ws c.0 (rw g)))

pub walks-listing : WalksListing
unfolding listing listed_keys keys_from
walks-listing b clock start count room o h =
    let ws = (table_of b).rows in
    let c = ordered-each ws o in
    walked_all room b clock start count h
    ∙ ap (λ (ks : List Key). keys_bytes (taken count 1278 ks))
    (ap (λ (n : ℕ). keys_live clock (drop n ws)) (first-past-below ws start o)
    ∙ walk_from clock start ws c
    ∙ ap (from_key start) (sym (sort-same (keys_live clock ws) (live-rising clock ws c))))
