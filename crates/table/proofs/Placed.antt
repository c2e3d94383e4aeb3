-- A lookup's row in any memory: it is there, and the key fits it.
use Prim.Native.Nat.{ℕ, ◌+◌, ◌*◌, ◌≤◌, ◌<◌}
use native.Mathlib.Omega.{arith}
use mathlib.Core.Path.{◌≡◌, sym, ap, ◌∙◌}
use mathlib.Core.Bool.{Bool, not, ◌&&◌}
use mathlib.Core.List.{List}
use Rattle.std.specs.Prelude.{Some, None}
use lib.Dec.{eqb}
use lib.ListN.{length, get_or}
use Rattle.octets.specs.Parts.{part}
use Rattle.octets.proofs.Choices.{cond-elim}
use Rattle.document.specs.Documents.{Key, Entry}
use Rattle.document.specs.Stored.{metadata_of}
use Rattle.document.specs.declared.Metadata.{Metadata}
use Rattle.engine.specs.declared.Config.{Config}
use Rattle.engine.specs.declared.EngineKind.{EngineKind}
use Rattle.engine.specs.declared.EngineKind.TheVariants.{Plain, Ordered}
use Rattle.engine.specs.declared.Place.{Place}
use Rattle.engine.specs.declared.Place.TheVariants.{Over, Full}
use Rattle.rows.specs.Row.{Row, slot_of, doc_of}
use Rattle.rows.specs.Table.{row_count, table_of, row_at}
use Rattle.rows.proofs.OneRow.{row-size, row-at, row-entry, key-inside, row-there}
use Rattle.plain.proofs.Places.{find-place}
use Rattle.plain.proofs.Placing.{over-found}
use Rattle.plain.proofs.TableLaws.{count-rows}
use Rattle.ordered_lookup.proofs.PlaceLaws.{over-keyed}
use Rattle.table.specs.declared.Lookup.{Lookup}
use Rattle.table.specs.Calls.{lookup_over, lookup_at, place_with, place_for, lookup_of}

-- the row that a document goes over is there and has its key, whatever the rows
abbrev Keyed : Key → List Row → ℕ → Type 0
Keyed key ws i = (i < length ws) × ((e : Entry) × ((get_or ws i None ≡ Some e) × (e.key ≡ key)))

over-in : (k : EngineKind) (key : Key) (ws : List Row) (new : Bool) (i : ℕ) → place_with k new key ws ≡ Over i → Keyed key ws i
over-in Plain key ws new i e = let h = find-place key ws i (over-found key ws new i e) in (h.below, (h.entry, (h.there, h.named)))
over-in Ordered key ws new i e = over-keyed ws key new i e

-- no row where none was looked for
no_row {ℓ} : {X : Type ℓ} (i : ℕ) → Full ≡ Over i → X
no_row i e = absurd (let y : ◌≡◌ {A = ℕ} 0 1 = cc in omega arith)

module _ (config : Config) (b : List ℕ) (key : Key) (new : Bool) (i : ℕ) (e : place_for config new key (table_of b).rows ≡ Over i) where
  over-row : Keyed key (table_of b).rows i
  unfolding place_for
  over-row = cond-elim (eqb (length key) 0 && not new) _ _ _ e (λ t z. no_row i z) (λ t z. over-in config.engine key (table_of b).rows new i z)

  pub place-below : i < row_count b
  place-below = omega (arith, over-row.0, count-rows b)

  pub place_short : length key ≤ 1280
  place_short =
      let h = over-row.1 in
      let q = row-entry (row_at b i) h.0 (sym (row-at b i) ∙ h.1.0) in
      let l = ap length (q.0 ∙ h.1.1) in
      omega (arith, l, key-inside (row_at b i) (omega (arith, row-size b i place-below)))

-- what is read of the row
pub row-held : (b r : List ℕ) (k i vallen : ℕ) (m : Metadata) → i < row_count b → r ≡ part b (16 + i * 1312) 1312 → m ≡ metadata_of (doc_of r) → vallen ≡ (slot_of r).vallen
    → ◌≡◌ {A = Lookup} (record { place = Over i; stored = Some m; at = 16 + i * 1312 + (32 + k); len = vallen }) (lookup_over b k i)
unfolding lookup_over
row-held b r k i vallen m h e p q =
    let f : r ≡ row_at b i = e ∙ sym (row-there b i h) in
    λ j. record {
      place = Over i;
      stored = Some ((p ∙ ap (λ (x : List ℕ). metadata_of (doc_of x)) f) j);
      at = 16 + i * 1312 + (32 + k);
      len = (q ∙ ap (λ (x : List ℕ). (slot_of x).vallen) f) j;
    }

-- by the place that was found
pub looked : (config : Config) (b : List ℕ) (key : Key) (new : Bool) (p : Place) (l : Lookup) → p ≡ place_for config new key (table_of b).rows
    → l ≡ lookup_at b (length key) p → l ≡ lookup_of config new b key
unfolding lookup_of
looked config b key new p l e f = f ∙ ap (lookup_at b (length key)) e
