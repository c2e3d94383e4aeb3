-- A purge of a good table's bytes, row by row, is the purge of the table.
use mathlib.Core.Path.{◌≡◌, refl, sym, ap, ◌∙◌}
use mathlib.Core.Bool.{Bool, cond}
use mathlib.Core.List.{List, [], ◌∷◌, ◌++◌}
use Rattle.std.specs.Prelude.{Some, None}
use Prim.Native.Nat.{ℕ, ◌+◌, ◌^◌, ◌<◌}
use lib.ListN.{length, take, drop, replicate}
use lib.Seq.{take_at}
use Rattle.octets.proofs.Choices.{cases}
use Rattle.document.specs.Documents.{Doc}
use Rattle.rows.specs.Row.{Row, row_of, row_bytes}
use Rattle.rows.specs.Table.{Table, head_bytes, rows_bytes, table_bytes}
use Rattle.plain.specs.Plain.{purge_rows}
use Rattle.plain.specs.Claims.{Good}
use Rattle.rows.specs.Good.{AllGood}
use Rattle.plain.specs.Purge.{picked, one, gone_count}
use Rattle.plain_writer.specs.Change.{purge_row, purge_bytes, purge_count}
use Rattle.rows.proofs.RowLaws.{row_read}
use Rattle.plain.proofs.TableLaws.{good-first, first-row, later_rows, rows-after}
use Rattle.rows.proofs.Heads.{head-length}

module _ (p : Doc → Bool) where
  -- one row, and those after it
  abbrev purged : Row → Row
  purged None = None
  purged (Some e) = cond (p e.doc) None (Some e)

  purge-first : (w : Row) (ws : List Row) → purge_rows (w ∷ ws) p ≡ purged w ∷ purge_rows ws p
  purge-first None ws = refl
  purge-first (Some e) ws = refl

  row-purged : (w : Row) → cond (picked p w) (replicate 1312 0) (row_bytes w) ≡ row_bytes (purged w)
  unfolding row_bytes
  row-purged None = refl
  row-purged (Some e) = cases (p e.doc) (λ t. rw t) (λ t. rw t)

  module _ (mark : ℕ) (small : mark < 2 ^ 64) where
    rows-purged : (ws : List Row) → AllGood mark ws → purge_bytes p (length ws) (rows_bytes ws) ≡ rows_bytes (purge_rows ws p)
    unfolding purge_row
    rows-purged [] g = refl
    rows-purged (w ∷ ws) g =
        let h = good-first mark w ws g in
        (λ i. purge_row p (first-row mark w ws h.0 i) ++ purge_bytes p (length ws) (later_rows mark w ws h.0 i))
        ∙ (λ i. cond (picked p (row_read mark w h.0 small i)) (replicate 1312 0) (row_bytes w) ++ rows-purged ws h.1 i)
        ∙ (λ i. row-purged w i ++ rows_bytes (purge_rows ws p))
        ∙ ap rows_bytes (sym (purge-first w ws))

    rows-gone : (ws : List Row) → AllGood mark ws → purge_count p (length ws) (rows_bytes ws) ≡ gone_count p ws
    rows-gone [] g = refl
    rows-gone (w ∷ ws) g =
        let h = good-first mark w ws g in
        (λ i. one (picked p (row_of (first-row mark w ws h.0 i))) + purge_count p (length ws) (later_rows mark w ws h.0 i))
        ∙ (λ i. one (picked p (row_read mark w h.0 small i)) + rows-gone ws h.1 i)

head-before : (t : Table) → take 16 (table_bytes t) ≡ head_bytes t.head
unfolding table_bytes
head-before t = take_at (head_bytes t.head) (rows_bytes t.rows) 16 (head-length t.head)

pub purge-bytes : (p : Doc → Bool) (t : Table) → Good t
    → (take 16 (table_bytes t) ++ purge_bytes p (length t.rows) (drop 16 (table_bytes t)) ≡ table_bytes (record { head = t.head; rows = purge_rows t.rows p }))
    × (purge_count p (length t.rows) (drop 16 (table_bytes t)) ≡ gone_count p t.rows)
unfolding table_bytes
purge-bytes p t g = (
  (λ i. head-before t i ++ purge_bytes p (length t.rows) (rows-after t i))
      ∙ ap (λ (l : List ℕ). head_bytes t.head ++ l) (rows-purged p t.head.mark.0 g.mark t.rows g.rows),
  ap (purge_count p (length t.rows)) (rows-after t) ∙ rows-gone p t.head.mark.0 g.mark t.rows g.rows,
)
