-- A lookup in the bytes of a good table, against its rows.
use Prim.Native.Nat.{ℕ, suc, ◌+◌, ◌*◌, ◌≤◌}
use native.Mathlib.Omega.{arith}
use mathlib.Core.Path.{◌≡◌, refl, sym, ap, ◌∙◌, subst}
use mathlib.Core.Bool.{Bool, true, cond, not, ◌&&◌, ◌||◌}
use mathlib.Core.List.{List, [], ◌∷◌}
use Rattle.std.specs.Prelude.{Option, Some, None}
use lib.Dec.{ltb, eqb}
use lib.ListN.{length}
use borrow.Author.Tests.{eqb-true, not-true}
use Rattle.octets.specs.Parts.{part}
use Rattle.octets.specs.Compare.{same}
use Rattle.octets.proofs.Choices.{cases, both}
use Rattle.document.specs.Documents.{Key, Doc, doc_value}
use Rattle.document.specs.Stored.{stored_of, has_row}
use Rattle.engine.specs.declared.Config.{Config}
use Rattle.engine.specs.declared.Place.{Place}
use Rattle.engine.specs.declared.Place.TheVariants.{Into, Full}
use Rattle.rows.specs.Row.{Row}
use Rattle.rows.specs.Table.{Table, table_of, table_bytes}
use Rattle.rows.specs.Find.{free_rows, value_place}
use Rattle.plain.specs.Lookup.{find_in}
use Rattle.plain.proofs.Places.{founds, nothing-at, find-place, find-nothing}
use Rattle.plain.proofs.TableLaws.{table-length, good-sound}
use Rattle.engines.specs.Claims.{GoodBy}
use Rattle.engines.proofs.Tables.{sound-good-by}
use Rattle.table.specs.declared.Lookup.{Lookup}
use Rattle.table.specs.Calls.{has_place, lookup_at, place_with, place_for, lookup_of}
use Rattle.table.specs.Claims.{Finds, FindsGood, FindsSound, LookupHead}
use Rattle.table.proofs.Rows.{over, entry-good, over-at, value-at}
use Rattle.table.proofs.Engines.{gap, new_at, found_in, absent-in}

-- where the value of a found row stands
place-from : (key : Key) (k i at : ℕ) (ws : List Row) → find_in key k ws ≡ Some i → (j : ℕ) × ((i ≡ k + j) × (value_place ws key at ≡ at + j * 1312 + (32 + length key)))
place-from key k i at [] e = nothing-at i e
place-from key k i at (None ∷ ws) e = let h = place-from key (k + 1) i (at + 1312) ws e in (suc h.0, (omega (arith, h.1.0), omega (arith, h.1.1)))
place-from key k i at (Some x ∷ ws) e =
    cases (same x.key key)
    (λ s. let z : k ≡ i = at_same k i (rw s at e) in (0, (omega arith, rw s (omega arith))))
    (λ s.
    let h = place-from key (k + 1) i (at + 1312) ws (rw s at e) in
    (suc h.0, (omega (arith, h.1.0), rw s (omega (arith, h.1.1)))))
  where
    at_same : (k i : ℕ) → Some k ≡ Some i → k ≡ i
    at_same k i e = cc

place-nowhere : (key : Key) (k at : ℕ) (ws : List Row) → find_in key k ws ≡ None → value_place ws key at ≡ 0
place-nowhere key k at [] e = refl
place-nowhere key k at (None ∷ ws) e = place-nowhere key (k + 1) (at + 1312) ws e
place-nowhere key k at (Some x ∷ ws) e =
    cases (same x.key key)
    (λ s. nothing-at k (sym (rw s at e)))
    (λ s. rw s (place-nowhere key (k + 1) (at + 1312) ws (rw s at e)))

abbrev pub absent_at : Place → Lookup
absent_at p = record { place = p; stored = None; at = 0; len = 0 }

module _ (room : Bool) (i : ℕ) where
  absent-at : (b : List ℕ) (k : ℕ) → lookup_at b k (cond room (Into i) Full) ≡ absent_at (cond room (Into i) Full)
  absent-at b k = cases room (λ t. rw t) (λ f. rw f)

  gap-place : has_place (cond room (Into i) Full) ≡ room
  gap-place = cases room (λ t. rw t) (λ f. rw f)

module _ (config : Config) (t : Table) (g : GoodBy config t) (key : Key) (new : Bool) where
  abbrev b : List ℕ
  b = table_bytes t

  abbrev place : Place
  place = place_for config new key (table_of b).rows

  -- rows have keys of a byte at least
  keyless : eqb (length key) 0 ≡ true → find_in key 0 t.rows ≡ None
  keyless e =
      founds (find_in key 0 t.rows)
      (λ i f.
      let h = find-place key t.rows i f in
      let m = entry-good t g.good i h.entry h.there in
      absurd (omega (arith, m.key-least, ap length h.named, eqb-true (length key) 0 e)))
      (λ f. f)

  unasked : (eqb (length key) 0 && not new) ≡ true → Full ≡ place_with config.engine new key t.rows
  unasked e =
      let p = both (eqb (length key) 0) (not new) e in
      sym (absent-in t g.good key new config.engine g.kept (keyless p.0) ∙ rw (not-true new p.1))

  place-with : place_for config new key t.rows ≡ place_with config.engine new key t.rows
  unfolding place_for
  place-with = cases (eqb (length key) 0 && not new) (λ e. rw e (unasked e)) (λ e. rw e)

  place-rows : place ≡ place_with config.engine new key t.rows
  place-rows = ap (λ (x : Table). place_for config new key x.rows) (good-sound t g.good).1 ∙ place-with

  -- the key has a row
  pub found-lookup : (i : ℕ) (f : find_in key 0 t.rows ≡ Some i) → lookup_of config new b key ≡ over (length key) i (find-place key t.rows i f).entry
  unfolding lookup_of
  found-lookup i f =
      let h = find-place key t.rows i f in
      ap (lookup_at b (length key)) (place-rows ∙ found_in t g.good key new config.engine g.kept i f)
      ∙ over-at t g.good i h.entry h.below h.there (length key)

  -- it has none
  pub absent-lookup : find_in key 0 t.rows ≡ None → lookup_of config new b key ≡ absent_at (gap config.engine new key t.rows)
  unfolding lookup_of
  absent-lookup f =
      ap (lookup_at b (length key)) (place-rows ∙ absent-in t g.good key new config.engine g.kept f)
      ∙ absent-at (new && ltb 0 (free_rows t.rows)) (new_at config.engine key t.rows) b (length key)

pub finds-good : FindsGood
finds-good config t key new g =
    let b = table_bytes t in
    founds (find_in key 0 t.rows)
    (λ i f.
    let h = find-place key t.rows i f in
    let x = h.entry in
    let q = found-lookup config t g key new i f in
    let k : length x.key ≡ length key = ap length h.named in
    let m = entry-good t g.good i x h.there in
    let p = place-from key 0 i 16 t.rows f in
    let j : p.0 ≡ i = omega (arith, p.1.0) in
    let v = value-at t g.good i x h.below h.there in
    record {
      stored = ap (λ (l : Lookup). l.stored) q ∙ sym (ap stored_of h.found);
      value = ap (λ (l : Lookup). part b l.at l.len) q
          ∙ ap (λ (n : ℕ). part b (16 + i * 1312 + (32 + n)) (length x.doc.value)) (sym k) ∙ v
          ∙ sym (ap doc_value h.found);
      inside = subst (λ (l : Lookup). l.at + l.len ≤ length b) (sym q) (omega (arith, table-length t g.good, h.below, k, m.key-most, m.value-most));
      short = subst (λ (l : Lookup). l.len ≤ 1024) (sym q) m.value-most;
      size = ap (λ (l : Lookup). l.len) q ∙ sym (ap (λ (o : Option Doc). length (doc_value o)) h.found);
      stands = ap (λ (l : Lookup). l.at) q ∙ ap (λ (n : ℕ). 16 + n * 1312 + (32 + length key)) (sym j) ∙ sym p.1.1;
      room = λ n. ap (λ (l : Lookup). has_place l.place) q ∙ sym (ap (λ (o : Option Doc). has_row (stored_of o) || ltb 0 (free_rows t.rows)) h.found);
    })
    (λ f.
    let q = absent-lookup config t g key new f in
    let n = find-nothing key 0 t.rows f in
    record {
      stored = ap (λ (l : Lookup). l.stored) q ∙ sym (ap stored_of n);
      value = ap (λ (l : Lookup). part b l.at l.len) q ∙ sym (ap doc_value n);
      inside = subst (λ (l : Lookup). l.at + l.len ≤ length b) (sym q) (omega arith);
      short = subst (λ (l : Lookup). l.len ≤ 1024) (sym q) (omega arith);
      size = ap (λ (l : Lookup). l.len) q ∙ sym (ap (λ (o : Option Doc). length (doc_value o)) n);
      stands = ap (λ (l : Lookup). l.at) q ∙ sym (place-nowhere key 0 16 t.rows f);
      room = λ e. ap (λ (l : Lookup). has_place l.place) q
          ∙ gap-place (new && ltb 0 (free_rows t.rows)) (new_at config.engine key t.rows)
          ∙ ap (λ (c : Bool). c && ltb 0 (free_rows t.rows)) e
          ∙ sym (ap (λ (o : Option Doc). has_row (stored_of o) || ltb 0 (free_rows t.rows)) n);
    })

pub finds-sound : FindsSound
finds-sound config b key new y s =
    let g = sound-good-by config b y s in
    subst (λ (x : List ℕ). Finds config x (table_of b).rows key new) g.0 (finds-good config (table_of b) key new g.1)

pub lookup_head : LookupHead
lookup_head config t h key new g k =
    let u : Table = record { head = h; rows = t.rows } in
    founds (find_in key 0 t.rows)
    (λ i f. found-lookup config u k key new i f ∙ sym (found-lookup config t g key new i f))
    (λ f. absent-lookup config u k key new f ∙ sym (absent-lookup config t g key new f))
