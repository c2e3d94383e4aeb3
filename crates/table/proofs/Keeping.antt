-- Storing, joining and purging in the bytes of a good table.
use Prim.Native.Nat.{ℕ, ◌+◌, ◌*◌, ◌≤◌}
use native.Mathlib.Omega.{arith}
use mathlib.Core.Path.{◌≡◌, refl, sym, ap, ◌∙◌}
use mathlib.Core.Bool.{Bool, true, false, cond, ◌&&◌}
use mathlib.Core.List.{List, [], append-nil}
use lib.Dec.{ltb}
use lib.ListN.{length}
use borrow.Author.Tests.{lt-ltb}
use Rattle.octets.specs.Parts.{part, pasted}
use Rattle.document.specs.declared.Metadata.{Metadata}
use Rattle.document.specs.declared.Side.{Side}
use Rattle.document.specs.declared.Side.TheVariants.{Front, Back}
use Rattle.document.specs.Documents.{Key, Entry, doc_value, joined}
use Rattle.document.specs.Stored.{metadata_of, entry_of}
use Rattle.engine.specs.declared.Config.{Config}
use Rattle.engine.specs.declared.Place.TheVariants.{Into, Full}
use Rattle.rows.specs.Row.{Row, row_bytes}
use Rattle.rows.specs.Table.{row_count, row_at, table_bytes}
use Rattle.rows.specs.Find.{find_row, free_rows}
use Rattle.rows.proofs.RowLaws.{value_read}
use Rattle.row_writer.specs.Over.{updated_bytes}
use Rattle.row_writer.proofs.Over.{update-used}
use Rattle.row_writer.proofs.Joined.{joined-there}
use Rattle.plain.specs.Lookup.{find_in}
use Rattle.plain.proofs.Places.{founds, find-place, find-nothing}
use Rattle.plain_writer.specs.Change.{row_updated, row_joined}
use Rattle.table.specs.declared.Lookup.{Lookup}
use Rattle.table.specs.Calls.{stored_new, stored_by, joined_by, purged_by}
use Rattle.table.specs.Claims.{StoresGood, JoinsGood, PurgesGood}
use Rattle.table.proofs.Rows.{entry-good, entry-bytes}
use Rattle.table.proofs.Engines.{new_at, put-over, row-stored, stored-in, purged-in, freed-rows}
use Rattle.table.proofs.Looking.{absent_at, found-lookup, absent-lookup}

pub stores-good : StoresGood
unfolding stored_by stored_new row_updated
stores-good config t key d g m room =
    let b = table_bytes t in
    let e : Entry = record { key = key; doc = d } in
    founds (find_in key 0 t.rows)
    (λ i f.
    let h = find-place key t.rows i f in
    let x = h.entry in
    let own = update-used t.head.mark.0 e m x (entry-good t g.good i x h.there) h.named in
    ap (λ (l : Lookup). stored_by config b l e) (found-lookup config t g key true i f)
    ∙ row-stored t g.good key d m i _ h.below
    (ap (λ (r : List ℕ). updated_bytes r (length key) (metadata_of d) d.value (length x.doc.value)) (entry-bytes t g.good i x h.below h.there) ∙ own)
    ∙ ap (λ (r : List Row). table_bytes (record { head = t.head; rows = r })) (sym (put-over t g.good key d config.engine g.kept i f)))
    (λ f.
    let h = room (find-nothing key 0 t.rows f) in
    let i = new_at config.engine key t.rows in
    ap (λ (l : Lookup). stored_by config b l e) (absent-lookup config t g key true f)
    ∙ ap (λ (c : Bool). stored_by config b (absent_at (cond c (Into i) Full)) e) (lt-ltb 0 (free_rows t.rows) h)
    ∙ stored-in t g.good key d m config.engine g.kept f h)

-- a value joined to nothing
alone : (side : Side) (value : List ℕ) → joined side [] value ≡ value
alone Front value = append-nil value
alone Back value = refl

module _ (config : Config) (b : List ℕ) (key : Key) (m : Metadata) (side : Side) (value : List ℕ) where
  -- a value joined to the one that stands in the row at a place
  row-joined : (i old : ℕ) (w : List ℕ) → part (row_at b i) (32 + length key) old ≡ w → length key + (old + length value) ≤ 1280
      → row_joined b i (length key) m side value old ≡ row_updated b i (length key) m (joined side w value) old
  unfolding row_joined row_updated
  row-joined i old w e room = ap (λ (r : List ℕ). cond (ltb i (row_count b)) (pasted b (16 + i * 1312) r) b) (joined-there (row_at b i) (length key) m value old side w e room)

  -- where a key has no row, nothing stands there
  place-joined : (room : Bool) (i : ℕ)
      → joined_by config b (absent_at (cond room (Into i) Full)) key m side value
      ≡ stored_by config b (absent_at (cond room (Into i) Full)) (entry_of key m (joined side [] value))
  unfolding joined_by stored_by
  place-joined true i = ap (λ (w : List ℕ). stored_new config b i (entry_of key m w)) (sym (alone side value))
  place-joined false i = refl

pub joins-good : JoinsGood
unfolding joined_by stored_by row_bytes
joins-good config t key m side value g room =
    let b = table_bytes t in
    let rows = t.rows in
    let stored = doc_value (find_row rows key) in
    let e = entry_of key m (joined side stored value) in
    founds (find_in key 0 rows)
    (λ i f.
    let h = find-place key rows i f in
    let x = h.entry in
    let v = x.doc.value in
    let s : v ≡ stored = sym (ap doc_value h.found) in
    let w : part (row_at b i) (32 + length key) (length v) ≡ stored =
    (λ j. part (entry-bytes t g.good i x h.below h.there j) (32 + length (sym h.named j)) (length v)) ∙ value_read x ∙ s in
    let q = found-lookup config t g key true i f in
    ap (λ (l : Lookup). joined_by config b l key m side value) q
    ∙ row-joined config b key m side value i (length v) stored w (omega (arith, ap length s))
    ∙ sym (ap (λ (l : Lookup). stored_by config b l e) q))
    (λ f.
    let n : stored ≡ [] = ap doc_value (find-nothing key 0 rows f) in
    let q = absent-lookup config t g key true f in
    let i = new_at config.engine key rows in
    let free = true && ltb 0 (free_rows rows) in
    ap (λ (l : Lookup). joined_by config b l key m side value) q
    ∙ place-joined config b key m side value free i
    ∙ sym (ap (λ (l : Lookup). stored_by config b l e) q
    ∙ ap (λ (w : List ℕ). stored_by config b (absent_at (cond free (Into i) Full)) (entry_of key m (joined side w value))) n))

pub purges-good : PurgesGood
unfolding purged_by
purges-good config t clock bound g = record {
  bytes = purged-in t g.good clock bound config.engine g.kept;
  count = freed-rows t g.good clock bound;
}
