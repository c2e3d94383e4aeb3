-- A purge of a good table in key order: the bytes are those of the table with the engine's purge.
use native.Mathlib.Omega.{arith}
use mathlib.Core.Path.{◌≡◌, sym, ap, ◌∙◌}
use mathlib.Core.Bool.{Bool, cond}
use mathlib.Core.List.{List, [], ◌∷◌, ◌++◌, append-nil}
use Rattle.std.specs.Prelude.{Some, None}
use Prim.Native.Nat.{ℕ, suc, ◌+◌, ◌-◌, ◌*◌, ◌^◌, ◌<◌}
use lib.ListN.{length, take, drop, replicate}
use lib.Seq.{take_at, drop_at}
use Rattle.octets.proofs.Choices.{cases}
use Rattle.document.specs.Documents.{Doc}
use Rattle.document.specs.Stored.{gone_doc}
use Rattle.rows.specs.Row.{Row, row_of, row_bytes}
use Rattle.rows.specs.Table.{Table, head_bytes, rows_bytes, table_bytes, fresh}
use Rattle.rows.specs.Good.{AllGood}
use Rattle.rows.proofs.RowLaws.{row_read}
use Rattle.rows.proofs.Heads.{head-length}
use Rattle.plain.specs.Lookup.{is_free}
use Rattle.plain.specs.Plain.{purge_rows}
use Rattle.plain.specs.Claims.{Good}
use Rattle.plain.proofs.TableLaws.{first-row, later_rows, rows-after, table-count}
use Rattle.plain.proofs.ChangeLaws.{purge-good, fresh-bytes}
use Rattle.plain_writer.specs.Change.{purge_bytes}
use Rattle.plain_writer.proofs.PurgeBytes.{purge-bytes}
use Rattle.ordered.specs.Purge.{staying_rows, purge_ordered}
use Rattle.ordered.proofs.PurgeLaws.{few-stay}
use Rattle.ordered_writer.specs.Gaps.{closed_bytes, gaps_closed}
use Rattle.ordered_writer.specs.Claims.{ClosesGood}

-- the used rows, and z free ones with those that stood among them
abbrev closed_rows : List Row → ℕ → List Row
closed_rows [] z = replicate z None
closed_rows (None ∷ ws) z = closed_rows ws (suc z)
closed_rows (Some x ∷ ws) z = Some x ∷ closed_rows ws z

free_bytes : (n : ℕ) → rows_bytes (replicate n None) ≡ replicate (n * 1312) 0
free_bytes n =
    let t = fresh n 0 0 0 in
    sym (rows-after t) ∙ ap (drop 16) (fresh-bytes n 0 0 0) ∙ drop_at (head_bytes t.head) (replicate (n * 1312) 0) 16 (head-length t.head)

module _ (mark : ℕ) (small : mark < 2 ^ 64) where
  rows-closed : (ws : List Row) (z : ℕ) → AllGood mark ws → closed_bytes (length ws) (z * 1312) (rows_bytes ws) ≡ rows_bytes (closed_rows ws z)
  rows-closed [] z g = append-nil (replicate (z * 1312) 0) ∙ sym (free_bytes z)
  rows-closed (None ∷ ws) z g =
      let n = length ws in
      let e : z * 1312 + 1312 ≡ suc z * 1312 = omega arith in
      (λ i.
      cond (is_free (row_of (first-row mark None ws tt i))) (closed_bytes n (e i) (later_rows mark None ws tt i))
      (first-row mark None ws tt i ++ closed_bytes n (z * 1312) (later_rows mark None ws tt i)))
      ∙ (λ i. cond (is_free (row_read mark None tt small i)) (rows-closed ws (suc z) g i) (row_bytes None ++ closed_bytes n (z * 1312) (rows_bytes ws)))
  rows-closed (Some x ∷ ws) z g =
      let n = length ws in
      (λ i.
      cond (is_free (row_of (first-row mark (Some x) ws g.0 i))) (closed_bytes n (z * 1312 + 1312) (later_rows mark (Some x) ws g.0 i))
      (first-row mark (Some x) ws g.0 i ++ closed_bytes n (z * 1312) (later_rows mark (Some x) ws g.0 i)))
      ∙ (λ i. cond (is_free (row_read mark (Some x) g.0 small i)) (closed_bytes n (z * 1312 + 1312) (rows_bytes ws)) (row_bytes (Some x) ++ rows-closed ws z g.1 i))

-- closing the gaps of a good table
gaps-closed : (t : Table) → Good t → gaps_closed (table_bytes t) ≡ table_bytes (record { head = t.head; rows = closed_rows t.rows 0 })
unfolding table_bytes
gaps-closed t g =
    (λ i. take_at (head_bytes t.head) (rows_bytes t.rows) 16 (head-length t.head) i ++ closed_bytes (table-count t g i) 0 (rows-after t i))
    ∙ ap (λ (l : List ℕ). head_bytes t.head ++ l) (rows-closed t.head.mark.0 g.mark t.rows 0 g.rows)

module _ (p : Doc → Bool) where
  -- the plain engine's purge with the gaps closed
  closed-purge : (ws : List Row) (z : ℕ) → closed_rows (purge_rows ws p) z ≡ staying_rows p ws ++ replicate (z + (length ws - length (staying_rows p ws))) None
  closed-purge [] z = let e : z ≡ z + (0 - 0) = omega arith in ap (λ (n : ℕ). replicate n None) e
  closed-purge (None ∷ ws) z =
      let m = length (staying_rows p ws) in
      let e : suc z + (length ws - m) ≡ z + (suc (length ws) - m) = omega (arith, few-stay p ws) in
      closed-purge ws (suc z) ∙ ap (λ (n : ℕ). staying_rows p ws ++ replicate n None) e
  closed-purge (Some x ∷ ws) z =
      let m = length (staying_rows p ws) in
      let e : suc z + (length ws - m) ≡ z + (suc (length ws) - m) = omega (arith, few-stay p ws) in
      let f : z + (length ws - m) ≡ z + (suc (length ws) - suc m) = omega arith in
      cases (p x.doc)
      (λ t. rw t (closed-purge ws (suc z) ∙ ap (λ (n : ℕ). staying_rows p ws ++ replicate n None) e))
      (λ q. rw q (ap (λ (r : List Row). Some x ∷ r) (closed-purge ws z ∙ ap (λ (n : ℕ). staying_rows p ws ++ replicate n None) f)))

  purge-closed : (ws : List Row) → closed_rows (purge_rows ws p) 0 ≡ purge_ordered ws p
  purge-closed ws =
      let m = length ws - length (staying_rows p ws) in
      let e : 0 + m ≡ m = omega arith in
      closed-purge ws 0 ∙ ap (λ (n : ℕ). staying_rows p ws ++ replicate n None) e

pub closes-good : ClosesGood
closes-good t clock bound g =
    let p = gone_doc clock bound in
    let b = table_bytes t in
    ap gaps_closed (ap (λ (k : ℕ). take 16 b ++ purge_bytes p k (drop 16 b)) (table-count t g.good) ∙ (purge-bytes p t g.good).0)
    ∙ gaps-closed (record { head = t.head; rows = purge_rows t.rows p }) (purge-good t p g.good)
    ∙ ap (λ (r : List Row). table_bytes (record { head = t.head; rows = r })) (purge-closed p t.rows)
