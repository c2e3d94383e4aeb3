-- A new key's row among the rows of any memory: the causes of refusal, and what moving and writing leave.
use native.Mathlib.Omega.{arith}
use mathlib.Core.Path.{◌≡◌, sym, ap, ◌∙◌}
use mathlib.Core.Bool.{false, and-false}
use mathlib.Core.List.{List, []}
use Rattle.std.specs.Prelude.{Some}
use Prim.Native.Nat.{ℕ, ◌+◌, ◌-◌, ◌*◌, ◌≤◌, ◌<◌}
use lib.Dec.{leb}
use lib.ListN.{length, drop, drop_of_length-le}
use borrow.Author.Tests.{lt-ltb, le-ltb, le-leb, lt-leb}
use Rattle.octets.specs.Parts.{part, pasted}
use Rattle.octets.specs.Compare.{zeros}
use Rattle.octets.proofs.Lists.{part_length, length-pasted, pasted-before}
use Rattle.document.specs.Documents.{Entry}
use Rattle.rows.specs.Row.{row_bytes}
use Rattle.rows.specs.Table.{row_count, row_at}
use Rattle.rows.proofs.OneRow.{row-size}
use Rattle.row_writer.specs.Over.{over_bytes}
use Rattle.row_writer.proofs.Over.{over-row}
use Rattle.row_writer.proofs.Writes.{length_over}
use Rattle.plain_writer.specs.Change.{row_stored}
use Rattle.ordered_writer.specs.Insertion.{row_inserted}

module _ (e : Entry) (room : length e.key + length e.doc.value ≤ 1280) where
  abbrev whole : ℕ
  whole = 1280 - length e.key

  -- an entry over a whole row, whatever it held
  over-whole : (r : List ℕ) → length r ≡ 1312 → over_bytes r e whole ≡ row_bytes (Some e)
  unfolding zeros
  over-whole r l =
      let n : 32 + (length e.key + whole) ≡ 1312 = omega arith in
      let d : drop (32 + (length e.key + whole)) r ≡ [] = drop_of_length-le r {i = 32 + (length e.key + whole)} (omega arith) in
      over-row r e whole l room (omega arith) (ap zeros d)

  module _ (b : List ℕ) (i u : ℕ) (h : i ≤ u) (k : u < row_count b) where
    abbrev at : ℕ
    at = 16 + i * 1312

    abbrev rows : List ℕ
    rows = part b at ((u - i) * 1312)

    moved_length : length rows ≡ (u - i) * 1312
    moved_length = part_length b at ((u - i) * 1312) (omega arith)

    abbrev apart : List ℕ
    apart = pasted b (at + 1312) rows

    apart-length : length apart ≡ length b
    apart-length = let q = moved_length in length-pasted b (at + 1312) rows (omega arith)

    pub insert-done : (s s' : List ℕ) → s ≡ pasted b (at + 1312) rows → s' ≡ row_stored s i e whole → s' ≡ row_inserted b i u e
    unfolding row_stored row_inserted
    insert-done s s' p q =
        let n = moved_length in
        let l : length apart ≡ length b = apart-length in
        let c : i < row_count apart = omega arith in
        let z : length (row_at apart i) ≡ 1312 = row-size apart i c in
        let o : over_bytes (row_at apart i) e whole ≡ row_bytes (Some e) = over-whole (row_at apart i) z in
        let w : length (row_bytes (Some e)) ≡ 1312 = ap length (sym o) ∙ length_over (row_at apart i) e whole ∙ z in
        q
        ∙ ap (λ (x : List ℕ). row_stored x i e whole) p
        ∙ rw (lt-ltb i (row_count apart) c, o)
        (pasted-before b at 1312 (row_bytes (Some e)) rows w (omega arith)
        ∙ rw (le-leb i u h, lt-ltb u (row_count b) k, le-leb (length e.key + length e.doc.value) 1280 room))

module _ (b : List ℕ) (i u : ℕ) (e : Entry) where
  pub insert-past : u < i → b ≡ row_inserted b i u e
  unfolding row_inserted
  insert-past h = rw (lt-leb i u h)

  pub insert-nowhere : row_count b ≤ u → b ≡ row_inserted b i u e
  unfolding row_inserted
  insert-nowhere h = rw (le-ltb u (row_count b) h, and-false)

  pub insert-unfit : leb (length e.key + length e.doc.value) 1280 ≡ false → b ≡ row_inserted b i u e
  unfolding row_inserted
  insert-unfit f = rw (f, and-false, and-false)
