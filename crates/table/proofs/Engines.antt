-- What differs by engine on good rows: the place of a key's document, and what a put and a purge leave of the bytes.
use Prim.Native.Nat.{ℕ, suc, ◌+◌, ◌*◌, ◌<◌}
use native.Mathlib.Omega.{arith}
use native.Mathlib.Nat.{zero-add}
use mathlib.Core.Path.{◌≡◌, refl, sym, ap, ◌∙◌}
use mathlib.Core.Bool.{Bool, true, false, cond, ◌&&◌}
use mathlib.Core.List.{List, [], ◌∷◌, ◌++◌}
use Rattle.std.specs.Prelude.{Option, Some, None}
use lib.Dec.{ltb}
use lib.ListN.{length, take, drop, get_or, set}
use borrow.Author.Tests.{lt-ltb}
use Rattle.octets.specs.Parts.{pasted}
use Rattle.document.specs.Documents.{Key, Doc, Entry}
use Rattle.document.specs.Stored.{gone_doc}
use Rattle.engine.specs.declared.EngineKind.{EngineKind}
use Rattle.engine.specs.declared.EngineKind.TheVariants.{Plain, Ordered}
use Rattle.engine.specs.declared.Place.{Place}
use Rattle.engine.specs.declared.Place.TheVariants.{Over, Into, Full}
use Rattle.rows.specs.Row.{Row, row_bytes}
use Rattle.rows.specs.Table.{Table, row_count, table_bytes}
use Rattle.rows.specs.Good.{EntryGood}
use Rattle.rows.specs.Find.{free_rows}
use Rattle.row_writer.specs.Over.{over_bytes}
use Rattle.row_writer.proofs.Over.{over-free}
use Rattle.plain.specs.Lookup.{find_in, free_in, free_place, found_place}
use Rattle.plain.specs.Claims.{Good}
use Rattle.plain.proofs.Places.{at_place, find-nothing}
use Rattle.plain.proofs.Placing.{place-good}
use Rattle.plain.proofs.TableLaws.{table-count}
use Rattle.plain.proofs.ChangeLaws.{row_put}
use Rattle.plain_writer.specs.Change.{row_stored, purge_bytes, purge_count, freed_rows}
use Rattle.plain_writer.proofs.PurgeBytes.{purge-bytes}
use Rattle.plain.specs.Purge.{gone_count}
use Rattle.ordered.specs.Insert.{rows_below}
use Rattle.ordered_lookup.proofs.PlaceLaws.{place_found, place-absent, place-puts}
use Rattle.ordered_writer.proofs.Inserting.{used_first, free-at, inserts-good}
use Rattle.ordered_writer.proofs.Purging.{closes-good}
use Rattle.engines.specs.Engines.{rows_kept, put_by, purge_by}
use Rattle.table.specs.Calls.{place_with, stored_with, purged_with}
use Rattle.table.proofs.Rows.{row-bytes}

-- the lowest free row is free
free-row : (ws : List Row) → get_or ws (used_first ws) None ≡ None
free-row [] = refl
free-row (None ∷ ws) = refl
free-row (Some x ∷ ws) = free-row ws

free-gap : (k : ℕ) (ws : List Row) → free_place (free_in k ws) ≡ cond (ltb 0 (free_rows ws)) (Into (k + used_first ws)) Full
free-gap k [] = refl
free-gap k (None ∷ ws) = let e : k ≡ k + 0 = omega arith in rw (lt-ltb 0 (free_rows (None ∷ ws)) (omega arith)) (ap Into e)
free-gap k (Some x ∷ ws) =
    let e : k + 1 + used_first ws ≡ k + suc (used_first ws) = omega arith in
    free-gap (k + 1) ws ∙ ap (λ (n : ℕ). cond (ltb 0 (free_rows ws)) (Into n) Full) e

free-asked : (new : Bool) (ws : List Row) → free_place (cond new (free_in 0 ws) None) ≡ cond (new && ltb 0 (free_rows ws)) (Into (used_first ws)) Full
free-asked true ws = free-gap 0 ws ∙ ap (λ (n : ℕ). cond (ltb 0 (free_rows ws)) (Into n) Full) (zero-add (used_first ws))
free-asked false ws = refl

-- where a key without a row goes
abbrev pub new_at : EngineKind → Key → List Row → ℕ
new_at Plain key ws = used_first ws
new_at Ordered key ws = rows_below key ws

-- that place, where one is asked for and a row is free
abbrev pub gap : EngineKind → Bool → Key → List Row → Place
gap k new key ws = cond (new && ltb 0 (free_rows ws)) (Into (new_at k key ws)) Full

module _ (t : Table) (g : Good t) (key : Key) where
  abbrev ws : List Row
  ws = t.rows

  module _ (new : Bool) where
    -- the key has a row
    pub found_in : (k : EngineKind) → rows_kept k ws → (i : ℕ) → find_in key 0 ws ≡ Some i → place_with k new key ws ≡ Over i
    found_in Plain o i f = place-good key ws t.head.mark.0 new g.rows ∙ ap (λ (q : Option ℕ). found_place q (cond new (free_in 0 ws) None)) f
    found_in Ordered o i f = place_found ws key new o i f

    -- it has none
    pub absent-in : (k : EngineKind) → rows_kept k ws → find_in key 0 ws ≡ None → place_with k new key ws ≡ gap k new key ws
    absent-in Plain o f =
        place-good key ws t.head.mark.0 new g.rows ∙ ap (λ (q : Option ℕ). found_place q (cond new (free_in 0 ws) None)) f ∙ free-asked new ws
    absent-in Ordered o f = place-absent ws key new o f

  module _ (d : Doc) where
    abbrev e : Entry
    e = record { key = key; doc = d }

    -- over the key's row
    pub put-over : (k : EngineKind) → rows_kept k ws → (i : ℕ) → find_in key 0 ws ≡ Some i → put_by k ws key d ≡ set ws i (Some e)
    put-over Plain o i f = (at_place key ws i (rw f)).put d
    put-over Ordered o i f = (place-puts ws key d i o).0 (place_found ws key true o i f)

    module _ (m : EntryGood t.head.mark.0 e) where
      -- over a row that then has the entry's own bytes
      pub row-stored : (i : ℕ) (r : List ℕ) → i < length ws → r ≡ row_bytes (Some e)
          → cond (ltb i (row_count (table_bytes t))) (pasted (table_bytes t) (16 + i * 1312) r) (table_bytes t) ≡ table_bytes (record { head = t.head; rows = set ws i (Some e) })
      row-stored i r h q =
          let l : i < row_count (table_bytes t) = omega (arith, h, table-count t g) in
          rw (lt-ltb i (row_count (table_bytes t)) l, q) (row_put t t.head.mark.0 i (Some e) m g.rows h)

      -- in a row of its own
      pub stored-in : (k : EngineKind) → rows_kept k ws → find_in key 0 ws ≡ None → 0 < free_rows ws
          → stored_with k (table_bytes t) (new_at k key ws) e ≡ table_bytes (record { head = t.head; rows = put_by k ws key d })
      unfolding row_stored
      stored-in Plain o f h =
          let i = used_first ws in
          let q : free_in 0 ws ≡ Some i = free-at ws 0 h ∙ ap Some (zero-add i) in
          let at = at_place key ws i (rw (f, q)) in
          row-stored i _ at.below
          (ap (λ (r : List ℕ). over_bytes r e 0) (row-bytes t g i at.below ∙ ap row_bytes (free-row ws)) ∙ over-free t.head.mark.0 e m)
          ∙ ap (λ (r : List Row). table_bytes (record { head = t.head; rows = r })) (sym (at.put d))
      stored-in Ordered o f h = inserts-good t key d (record { good = g; order = o }) m (find-nothing key 0 ws f) h

module _ (t : Table) (g : Good t) (clock bound : ℕ) where
  abbrev gone : Doc → Bool
  gone = gone_doc clock bound

  abbrev b : List ℕ
  b = table_bytes t

  pub purged-in : (k : EngineKind) → rows_kept k t.rows → purged_with k gone b ≡ table_bytes (record { head = t.head; rows = purge_by k t.rows gone })
  purged-in Plain o = ap (λ (n : ℕ). take 16 b ++ purge_bytes gone n (drop 16 b)) (table-count t g) ∙ (purge-bytes gone t g).0
  purged-in Ordered o = closes-good t clock bound (record { good = g; order = o })

  pub freed-rows : freed_rows gone b ≡ gone_count gone t.rows
  freed-rows = ap (λ (n : ℕ). purge_count gone n (drop 16 b)) (table-count t g) ∙ (purge-bytes gone t g).1
