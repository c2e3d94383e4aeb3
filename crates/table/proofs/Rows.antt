-- The rows in the bytes of a good table.
use Prim.Native.Nat.{ℕ, zero, suc, ◌+◌, ◌*◌, ◌<◌}
use native.Mathlib.Omega.{arith}
use mathlib.Core.Path.{◌≡◌, sym, ap, ◌∙◌, subst}
use mathlib.Core.List.{List, [], ◌∷◌}
use Rattle.std.specs.Prelude.{Some, None}
use lib.ListN.{length, take, drop, get_or}
use lib.Seq.{drop-drop}
use Rattle.octets.specs.Parts.{part}
use Rattle.document.specs.Documents.{Entry}
use Rattle.document.specs.Stored.{metadata_of}
use Rattle.engine.specs.declared.Place.TheVariants.{Over}
use Rattle.rows.specs.Row.{Row, slot_of, doc_of, row_of, slot_for, row_bytes}
use Rattle.rows.specs.Table.{Table, chunks, rows_bytes, table_bytes, row_at}
use Rattle.rows.specs.Good.{EntryGood, AllGood}
use Rattle.rows.proofs.RowLaws.{RowGood, row_read, slot_read, value_read}
use Rattle.rows.proofs.OneRow.{row-entry, row-there}
use Rattle.rows.proofs.Heads.{part_in}
use Rattle.plain.specs.Claims.{Good}
use Rattle.plain.proofs.TableLaws.{good-first, first-row, later_rows, rows-after, table-count}
use Rattle.table.specs.declared.Lookup.{Lookup}
use Rattle.table.specs.Calls.{lookup_over}

-- the row at a place of good rows
module _ (mark : ℕ) where
  good-at : (ws : List Row) (i : ℕ) → AllGood mark ws → RowGood mark (get_or ws i None)
  good-at [] i g = tt
  good-at (w ∷ ws) zero g = (good-first mark w ws g).0
  good-at (w ∷ ws) (suc i) g = good-at ws i (good-first mark w ws g).1

  chunk-at : (ws : List Row) (i : ℕ) → AllGood mark ws → i < length ws → get_or (chunks (length ws) (rows_bytes ws)) i [] ≡ row_bytes (get_or ws i None)
  chunk-at [] i g h = absurd (omega arith)
  chunk-at (w ∷ ws) zero g h = first-row mark w ws (good-first mark w ws g).0
  chunk-at (w ∷ ws) (suc i) g h =
      let q = good-first mark w ws g in
      ap (λ (b : List ℕ). get_or (chunks (length ws) b) i []) (later_rows mark w ws q.0) ∙ chunk-at ws i q.1 (omega arith)

-- what a lookup gives of a row with an entry
abbrev pub over : ℕ → ℕ → Entry → Lookup
over k i x = record { place = Over i; stored = Some (metadata_of x.doc); at = 16 + i * 1312 + (32 + k); len = length x.doc.value }

module _ (t : Table) (g : Good t) where
  abbrev b : List ℕ
  b = table_bytes t

  pub row-bytes : (i : ℕ) → i < length t.rows → row_at b i ≡ row_bytes (get_or t.rows i None)
  row-bytes i h = (λ j. get_or (chunks (table-count t g j) (rows-after t j)) i []) ∙ chunk-at t.head.mark.0 t.rows i g.rows h

  pub entry-good : (i : ℕ) (x : Entry) → get_or t.rows i None ≡ Some x → EntryGood t.head.mark.0 x
  entry-good i x e = subst (RowGood t.head.mark.0) e (good-at t.head.mark.0 t.rows i g.rows)

  module _ (i : ℕ) (x : Entry) (h : i < length t.rows) (e : get_or t.rows i None ≡ Some x) where
    pub entry-bytes : row_at b i ≡ row_bytes (Some x)
    entry-bytes = row-bytes i h ∙ ap row_bytes e

    doc-at : doc_of (row_at b i) ≡ x.doc
    doc-at = (row-entry (row_at b i) x (ap row_of entry-bytes ∙ row_read t.head.mark.0 (Some x) (entry-good i x e) g.mark)).1

    size-at : (slot_of (row_at b i)).vallen ≡ length x.doc.value
    unfolding row_bytes slot_for
    size-at = ap (λ (r : List ℕ). (slot_of r).vallen) entry-bytes ∙ (λ j. (slot_read t.head.mark.0 x (entry-good i x e) g.mark j).vallen)

    pub over-at : (k : ℕ) → lookup_over b k i ≡ over k i x
    unfolding lookup_over
    over-at k = λ j. record { place = Over i; stored = Some (metadata_of (doc-at j)); at = 16 + i * 1312 + (32 + k); len = size-at j }

    pub value-at : part b (16 + i * 1312 + (32 + length x.key)) (length x.doc.value) ≡ x.doc.value
    unfolding row_bytes
    value-at =
        let at = 16 + i * 1312 in
        let k = 32 + length x.key in
        let v = length x.doc.value in
        let f = entry-good i x e in
        ap (take v) (sym (drop-drop k at b))
        ∙ sym (part_in (drop at b) k v 1312 (omega (arith, f.key-most, f.value-most)))
        ∙ ap (λ (r : List ℕ). part r k v) (sym (row-there b i (omega (arith, table-count t g))) ∙ entry-bytes)
        ∙ value_read x
