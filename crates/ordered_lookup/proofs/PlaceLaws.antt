-- The place that halving gives in rows in order, against what a lookup means and the number of free rows.
use native.Mathlib.Omega.{arith}
use native.Mathlib.Nat.{zero-add}
use mathlib.Core.Path.{◌≡◌, refl, sym, ap, ◌∙◌}
use mathlib.Core.Bool.{Bool, true, false, ◌&&◌, cond, false≢true}
use mathlib.Core.List.{List, [], ◌∷◌, ◌++◌}
use Rattle.std.specs.Prelude.{Option, Some, None}
use Rattle.std.specs.declared.cmp.Ordering.{Ordering}
use Rattle.std.specs.declared.cmp.Ordering.TheVariants.{Less, Equal, Greater}
use Prim.Native.Nat.{ℕ, zero, suc, ◌+◌, ◌-◌, ◌<◌}
use lib.Dec.{ltb}
use lib.ListN.{length, take, drop, set, get_or}
use borrow.Author.Tests.{lt-ltb, ltb-true, ltb-false}
use Rattle.octets.proofs.Choices.{both, cond-elim}
use Rattle.octets.proofs.Options.{none-some}
use Rattle.keys.specs.Keys.{side_of}
use Rattle.keys.proofs.KeyLaws.{sides, side-refl, side-equal, below-side, equal-same, less-same, greater-same}
use Rattle.document.specs.Documents.{Key, Doc, Entry}
use Rattle.engine.specs.declared.Place.{Place}
use Rattle.engine.specs.declared.Place.TheVariants.{Over, Into, Full}
use Rattle.rows.specs.Row.{Row}
use Rattle.rows.specs.Find.{find_row, free_rows}
use Rattle.plain.specs.Lookup.{find_in}
use Rattle.plain.proofs.Places.{founds, find-place, find-nothing, nothing-find}
use Rattle.ordered.specs.Order.{follows, ordered, row_side}
use Rattle.ordered.specs.Insert.{rows_below, one_free_less, insert_row}
use Rattle.ordered.proofs.OrderLaws.{AllFollow, EachFollows, ordered-each, not-less, not_after}
use Rattle.ordered.proofs.InsertLaws.{insert-new}
use Rattle.ordered_lookup.specs.Halving.{halved, key_place, place_number, first_from, last_free, with_room, place_ordered}
use Rattle.ordered_lookup.specs.Claims.{found_or, HalvingFinds, HoldsKey, KeyPlaced, OrderedPlaces, PlacePuts, FirstPastBelow}
use Rattle.ordered_lookup.proofs.HalvingLaws.{over-into, over-same, halve-over, walked, halving-walks, all-at}

module _ (key : Key) where
  above : (i : ℕ) (w : Row) (ws : List Row) → AllFollow w ws → (row_side key w ≡ Less → ⊥) → Into i ≡ found_or (find_in key (i + 1) ws) (Into (i + 0))
  above i w ws a n =
      let e : i ≡ i + 0 = omega arith in
      rw (nothing-find key (i + 1) ws (not_after key w ws a n)) (ap Into e)

  walk-found : (i : ℕ) (ws : List Row) → EachFollows ws → walked key i ws ≡ found_or (find_in key i ws) (Into (i + rows_below key ws))
  walk-found i [] c = let e : i ≡ i + 0 = omega arith in ap Into e
  walk-found i (None ∷ ws) c = above i None ws c.0 (not-less Greater refl)
  walk-found i (Some x ∷ ws) c =
      sides (side_of x.key key)
      (λ l.
      let e : i + 1 + rows_below key ws ≡ i + suc (rows_below key ws) = omega arith in
      rw (l, less-same x.key key l) (walk-found (i + 1) ws c.1 ∙ ap (λ (n : ℕ). found_or (find_in key (i + 1) ws) (Into n)) e))
      (λ q. rw (q, equal-same x.key key q))
      (λ g. rw (g, greater-same x.key key g) (above i (Some x) ws c.0 (not-less (side_of x.key key) g)))

  walk-number : (i : ℕ) (ws : List Row) → place_number (walked key i ws) ≡ i + rows_below key ws
  walk-number i [] = omega arith
  walk-number i (w ∷ ws) =
      sides (row_side key w)
      (λ l. rw l (omega (arith, walk-number (i + 1) ws)))
      (λ e. rw e (omega arith))
      (λ g. rw g (omega arith))

pub first-past-below : FirstPastBelow
unfolding first_from
first-past-below ws key o = ap place_number (halving-walks key ws (ordered-each ws o)) ∙ walk-number key 0 ws ∙ zero-add (rows_below key ws)

-- the last row is free where any is
last-tells : (ws : List Row) → EachFollows ws → last_free ws ≡ ltb 0 (free_rows ws)
last-tells [] c = refl
last-tells (None ∷ []) c = refl
last-tells (Some x ∷ []) c = refl
last-tells (Some x ∷ v ∷ ws) c = last-tells (v ∷ ws) c.1
last-tells (None ∷ None ∷ ws) c =
    last-tells (None ∷ ws) c.1 ∙ lt-ltb 0 (suc (free_rows ws)) (omega arith) ∙ sym (lt-ltb 0 (suc (suc (free_rows ws))) (omega arith))
last-tells (None ∷ Some y ∷ ws) c = absurd (false≢true c.0.0)

with-room : (room : Bool) (f : Option ℕ) (n : ℕ) → with_room room (found_or f (Into n)) ≡ found_or f (cond room (Into n) Full)
with-room room (Some i) n = refl
with-room room None n = refl

pub halving-finds : HalvingFinds
unfolding place_ordered
halving-finds ws key new o =
    let c = ordered-each ws o in
    let n = rows_below key ws in
    let e : 0 + n ≡ n = omega arith in
    (λ i. with_room (new && last-tells ws c i) ((halving-walks key ws c ∙ walk-found key 0 ws c ∙ ap (λ (k : ℕ). found_or (find_in key 0 ws) (Into k)) e) i))
    ∙ with-room (new && ltb 0 (free_rows ws)) (find_in key 0 ws) n

-- a row that holds the key: those before it are below, so that a walk finds it and a put sets it
module _ (key : Key) (e : Entry) (named : e.key ≡ key) where
  own-side : side_of e.key key ≡ Equal
  own-side = rw named (side-refl key)

  before_side : (w : Row) → follows w (Some e) ≡ true → row_side key w ≡ Less
  before_side None p = absurd (false≢true p)
  before_side (Some x) p = rw named at (below-side x.key e.key p)

  held_found : (k i : ℕ) (ws : List Row) → EachFollows ws → i < length ws → get_or ws i None ≡ Some e → find_in key k ws ≡ Some (k + i)
  held_found k i [] c h t = absurd (omega arith)
  held_found k zero (w ∷ ws) c h t = let z : k ≡ k + 0 = omega arith in rw (t, equal-same e.key key own-side) (ap Some z)
  held_found k (suc i) (None ∷ ws) c h t =
      let z : k + 1 + i ≡ k + suc i = omega arith in
      held_found (k + 1) i ws c.1 (omega arith) t ∙ ap Some z
  held_found k (suc i) (Some x ∷ ws) c h t =
      let z : k + 1 + i ≡ k + suc i = omega arith in
      let l = before_side (Some x) (rw t at (all-at (Some x) ws c.0 i (omega arith))) in
      rw (less-same x.key key l) (held_found (k + 1) i ws c.1 (omega arith) t ∙ ap Some z)

  held-put : (d : Doc) (i : ℕ) (ws : List Row) → EachFollows ws → i < length ws → get_or ws i None ≡ Some e → insert_row ws key d ≡ set ws i (Some (record { key = key; doc = d }))
  held-put d i [] c h t = absurd (omega arith)
  held-put d zero (w ∷ ws) c h t = rw (t, own-side)
  held-put d (suc i) (None ∷ ws) c h t = absurd (false≢true (rw t at (all-at None ws c.0 i (omega arith))))
  held-put d (suc i) (Some x ∷ ws) c h t =
      let l = before_side (Some x) (rw t at (all-at (Some x) ws c.0 i (omega arith))) in
      rw l (ap (λ (l : List Row). Some x ∷ l) (held-put d i ws c.1 (omega arith) t))

-- no place is another
over-full {ℓ} : {X : Type ℓ} (i : ℕ) → Over i ≡ Full → X
over-full i e = let z : ◌≡◌ {A = ℕ} 0 1 = cc in absurd (omega arith)

into-full {ℓ} : {X : Type ℓ} (i : ℕ) → Into i ≡ Full → X
into-full i e = let z : ◌≡◌ {A = ℕ} 0 1 = cc in absurd (omega arith)

into-same : (i j : ℕ) → Into i ≡ Into j → i ≡ j
into-same i j e = cc

room-over : (room : Bool) (p : Place) (i : ℕ) → with_room room p ≡ Over i → p ≡ Over i
room-over room (Over j) i e = e
room-over true (Into j) i e = over-into i j (sym e)
room-over false (Into j) i e = over-full i (sym e)
room-over room Full i e = over-full i (sym e)

row-keyed : (key : Key) (w : Row) → row_side key w ≡ Equal → (e : Entry) × ((w ≡ Some e) × (e.key ≡ key))
row-keyed key None s = let z : ◌≡◌ {A = ℕ} 0 1 = cc in absurd (omega arith)
row-keyed key (Some x) s = (x, (refl, side-equal x.key key s))

-- in any rows, in order or not, a document goes over a row that has its key
pub over-keyed : (ws : List Row) (key : Key) (new : Bool) (i : ℕ) → place_ordered new key ws ≡ Over i
    → (i < length ws) × ((e : Entry) × ((get_or ws i None ≡ Some e) × (e.key ≡ key)))
unfolding place_ordered key_place halved
over-keyed ws key new i e =
    let at : ℕ → Ordering = λ j. row_side key (get_or ws j None) in
    let h = halve-over at (length ws - 0) 0 (length ws) i (room-over (new && last_free ws) (key_place key ws) i e) in
    (h.0, row-keyed key (get_or ws i None) h.1)

module _ (ws : List Row) (key : Key) (new : Bool) (o : ordered ws ≡ true) where
  abbrev room : Bool
  room = new && ltb 0 (free_rows ws)

  abbrev gap : Place
  gap = cond room (Into (rows_below key ws)) Full

  -- by what a walk finds: the key's row, or none
  pub place-absent : find_in key 0 ws ≡ None → place_ordered new key ws ≡ gap
  place-absent f = halving-finds ws key new o ∙ rw f

  pub place_found : (i : ℕ) → find_in key 0 ws ≡ Some i → place_ordered new key ws ≡ Over i
  place_found i f = halving-finds ws key new o ∙ rw f

  given-over : (i : ℕ) → place_ordered new key ws ≡ Over i → HoldsKey ws key i
  given-over i e =
      founds (find_in key 0 ws)
      (λ j f.
      let h = find-place key ws i (f ∙ ap Some (over-same j i (sym (place_found j f) ∙ e))) in
      record { entry = h.entry; below = h.below; there = h.there; named = h.named; found = h.found })
      (λ f.
      cond-elim room (Into (rows_below key ws)) Full (Over i) (sym (place-absent f) ∙ e)
      (λ t z. over-into i (rows_below key ws) (sym z))
      (λ t z. over-full i (sym z)))

  given-into : (i : ℕ) → place_ordered new key ws ≡ Into i → ((new ≡ true) × (i ≡ rows_below key ws)) × ((find_row ws key ≡ None) × (0 < free_rows ws))
  given-into i e =
      founds (find_in key 0 ws)
      (λ j f. over-into j i (sym (place_found j f) ∙ e))
      (λ f.
      cond-elim room (Into (rows_below key ws)) Full (Into i) (sym (place-absent f) ∙ e)
      (λ t z.
      let q = both new (ltb 0 (free_rows ws)) t in
      ((q.0, into-same i (rows_below key ws) (sym z)), (find-nothing key 0 ws f, ltb-true 0 (free_rows ws) q.1)))
      (λ t z. into-full i (sym z)))

  given-full : new ≡ true → place_ordered new key ws ≡ Full → (find_row ws key ≡ None) × (free_rows ws ≡ 0)
  given-full n e =
      founds (find_in key 0 ws)
      (λ j f. over-full j (sym (place_found j f) ∙ e))
      (λ f.
      cond-elim room (Into (rows_below key ws)) Full Full (sym (place-absent f) ∙ e)
      (λ t z. into-full (rows_below key ws) z)
      (λ t z.
      let k : ltb 0 (free_rows ws) ≡ false = rw n at t in
      (find-nothing key 0 ws f, omega (arith, ltb-false 0 (free_rows ws) k))))

  found-over : (d : Doc) → find_row ws key ≡ Some d → (i : ℕ) × (place_ordered new key ws ≡ Over i)
  found-over d e =
      founds (find_in key 0 ws)
      (λ i f. (i, place_found i f))
      (λ f. none-some d (sym (find-nothing key 0 ws f) ∙ e))

  full-where : (asked : Bool) → free_rows ws ≡ 0 → cond (asked && ltb 0 (free_rows ws)) (Into (rows_below key ws)) Full ≡ Full
  full-where true z = rw z
  full-where false z = refl

  key-placed : KeyPlaced ws key new
  key-placed = record {
    over = given-over;
    over-row = λ i e h t k. let z : 0 + i ≡ i = omega arith in place_found i (held_found key e k 0 i ws (ordered-each ws o) h t ∙ ap Some z);
    over-found = found-over;
    into = given-into;
    into-free = λ n f h. place-absent (nothing-find key 0 ws f) ∙ rw (n, lt-ltb 0 (free_rows ws) h);
    full = given-full;
    full-used = λ f z. place-absent (nothing-find key 0 ws f) ∙ full-where new z;
    full-unasked = λ n f. place-absent (nothing-find key 0 ws f) ∙ rw n;
  }

pub ordered-places : OrderedPlaces
ordered-places = key-placed

pub place-puts : PlacePuts
place-puts ws key d i o =
    let c = ordered-each ws o in (
      (λ e. let h = given-over ws key true o i e in held-put key h.entry h.named d i ws c h.below h.there),
      (λ e.
          let h = given-into ws key true o i e in
          insert-new key d ws h.1.0 h.1.1 ∙ ap (λ (n : ℕ). take n ws ++ (Some (record { key = key; doc = d }) ∷ one_free_less (drop n ws))) (sym h.0.1)),
    )
