-- A new key's document stored at its place in a good table in key order: the bytes are those of the table with it put.
use native.Mathlib.Omega.{arith}
use native.Mathlib.Nat.{zero-add}
use mathlib.Core.Path.{◌≡◌, refl, sym, ap, ◌∙◌}
use mathlib.Core.List.{List, [], ◌∷◌, ◌++◌, append_assoc}
use Rattle.std.specs.Prelude.{Some, None}
use Prim.Native.Nat.{ℕ, zero, suc, ◌+◌, ◌-◌, ◌*◌, ◌≤◌, ◌<◌}
use lib.ListN.{length, take, drop, length-append, take-append-drop}
use lib.Seq.{take_at, drop_at, length-take-le}
use borrow.Author.Tests.{lt-ltb, le-leb}
use Rattle.octets.specs.Parts.{part, pasted}
use Rattle.octets.proofs.Lists.{pasted-skip, pasted-over}
use Rattle.keys.specs.Keys.{side_of}
use Rattle.keys.proofs.KeyLaws.{sides}
use Rattle.document.specs.Documents.{Key, Entry}
use Rattle.rows.specs.Row.{Row, row_bytes}
use Rattle.rows.specs.Table.{Table, head_bytes, rows_bytes, table_of, table_bytes}
use Rattle.rows.specs.Good.{EntryGood, AllGood}
use Rattle.rows.specs.Find.{find_row, free_rows}
use Rattle.rows.proofs.RowLaws.{row-length}
use Rattle.rows.proofs.Heads.{head-length}
use Rattle.plain.specs.Lookup.{free_in}
use Rattle.plain.proofs.TableLaws.{good-first, good_more, rows-length, table-count, good-sound}
use Rattle.ordered.specs.Insert.{rows_below, one_free_less, insert_row}
use Rattle.ordered.specs.Claims.{GoodOrdered}
use Rattle.ordered.proofs.InsertLaws.{insert-new}
use Rattle.ordered_writer.specs.Insertion.{row_inserted, inserted_by}
use Rattle.ordered_writer.specs.Claims.{InsertsGood}

-- how many used rows stand before the first free one
abbrev pub used_first : List Row → ℕ
used_first [] = 0
used_first (None ∷ ws) = 0
used_first (Some x ∷ ws) = suc (used_first ws)

pub free-at : (ws : List Row) (k : ℕ) → 0 < free_rows ws → free_in k ws ≡ Some (k + used_first ws)
free-at [] k h = absurd (omega arith)
free-at (None ∷ ws) k h = let e : k ≡ k + 0 = omega arith in ap Some e
free-at (Some x ∷ ws) k h = let e : k + 1 + used_first ws ≡ k + suc (used_first ws) = omega arith in free-at ws (k + 1) h ∙ ap Some e

free-within : (ws : List Row) → 0 < free_rows ws → used_first ws < length ws
free-within [] h = absurd (omega arith)
free-within (None ∷ ws) h = omega arith
free-within (Some x ∷ ws) h = omega (arith, free-within ws h)

-- those rows, the free one, and the rows after it
open-split : (ws : List Row) → 0 < free_rows ws → ws ≡ take (used_first ws) ws ++ (None ∷ drop (suc (used_first ws)) ws)
open-split [] h = absurd (omega arith)
open-split (None ∷ ws) h = refl
open-split (Some x ∷ ws) h = ap (λ (l : List Row). Some x ∷ l) (open-split ws h)

less-split : (ws : List Row) → 0 < free_rows ws → one_free_less ws ≡ take (used_first ws) ws ++ drop (suc (used_first ws)) ws
less-split [] h = absurd (omega arith)
less-split (None ∷ ws) h = refl
less-split (Some x ∷ ws) h = ap (λ (l : List Row). Some x ∷ l) (less-split ws h)

-- past some of those rows
used-drop : (i : ℕ) (ws : List Row) → i ≤ used_first ws → used_first (drop i ws) ≡ used_first ws - i
used-drop zero ws h = omega arith
used-drop (suc i) [] h = absurd (omega arith)
used-drop (suc i) (None ∷ ws) h = absurd (omega arith)
used-drop (suc i) (Some x ∷ ws) h = used-drop i ws (omega arith) ∙ omega arith

free-drop : (i : ℕ) (ws : List Row) → i ≤ used_first ws → free_rows (drop i ws) ≡ free_rows ws
free-drop zero ws h = refl
free-drop (suc i) [] h = absurd (omega arith)
free-drop (suc i) (None ∷ ws) h = absurd (omega arith)
free-drop (suc i) (Some x ∷ ws) h = free-drop i ws (omega arith)

-- a new key's place
place-within : (key : Key) (ws : List Row) → rows_below key ws ≤ used_first ws
place-within key [] = omega arith
place-within key (None ∷ ws) = omega arith
place-within key (Some x ∷ ws) =
    sides (side_of x.key key) (λ l. rw l (omega (arith, place-within key ws))) (λ e. rw e (omega arith)) (λ g. rw g (omega arith))

pub rows_append : (a b : List Row) → rows_bytes (a ++ b) ≡ rows_bytes a ++ rows_bytes b
rows_append [] b = refl
rows_append (w ∷ a) b = ap (λ (l : List ℕ). row_bytes w ++ l) (rows_append a b) ∙ sym (append_assoc (row_bytes w) (rows_bytes a) (rows_bytes b))

module _ (mark : ℕ) where
  good-take : (n : ℕ) (ws : List Row) → AllGood mark ws → AllGood mark (take n ws)
  good-take zero ws g = tt
  good-take (suc n) [] g = tt
  good-take (suc n) (w ∷ ws) g = let h = good-first mark w ws g in good_more mark w (take n ws) h.0 (good-take n ws h.1)

  good-drop : (n : ℕ) (ws : List Row) → AllGood mark ws → AllGood mark (drop n ws)
  good-drop zero ws g = g
  good-drop (suc n) [] g = tt
  good-drop (suc n) (w ∷ ws) g = good-drop n ws (good-first mark w ws g).1

  module _ (e : Entry) (k : EntryGood mark e) where
    -- the rows up to the first free one behind the entry's, over all of them
    rows-moved : (ws : List Row) → AllGood mark ws → 0 < free_rows ws
        → pasted (rows_bytes ws) 0 (row_bytes (Some e) ++ take (used_first ws * 1312) (rows_bytes ws)) ≡ rows_bytes (Some e ∷ one_free_less ws)
    rows-moved ws g h =
        let u = used_first ws in
        let E = row_bytes (Some e) in
        let B = rows_bytes (take u ws) in
        let F = row_bytes None in
        let D = rows_bytes (drop (suc u) ws) in
        let s : rows_bytes ws ≡ B ++ (F ++ D) = ap rows_bytes (open-split ws h) ∙ rows_append (take u ws) (None ∷ drop (suc u) ws) in
        let n : length (take u ws) ≡ u = length-take-le u ws (omega (arith, free-within ws h)) in
        let l : length B ≡ u * 1312 = rows-length mark (take u ws) (good-take u ws g) ∙ ap (λ (m : ℕ). m * 1312) n in
        let a : take (u * 1312) (rows_bytes ws) ≡ B = ap (take (u * 1312)) s ∙ take_at B (F ++ D) (u * 1312) l in
        let p : length (B ++ F) ≡ length (E ++ B) =
        length-append B F ∙ omega (arith, row-length mark None tt, row-length mark (Some e) k) ∙ sym (length-append E B) in
        (λ i. pasted ((s ∙ sym (append_assoc B F D)) i) 0 (E ++ a i))
        ∙ pasted-over (B ++ F) D (E ++ B) p
        ∙ append_assoc E B D
        ∙ ap (λ (x : List ℕ). E ++ x) (sym (ap rows_bytes (less-split ws h) ∙ rows_append (take u ws) (drop (suc u) ws)))

    -- the same behind the header and the rows before the place
    bytes-moved : (t : Table) (i : ℕ) → AllGood mark t.rows → 0 < free_rows t.rows → i ≤ used_first t.rows
        → pasted (table_bytes t) (16 + i * 1312) (row_bytes (Some e) ++ part (table_bytes t) (16 + i * 1312) ((used_first t.rows - i) * 1312))
        ≡ table_bytes (record { head = t.head; rows = take i t.rows ++ (Some e ∷ one_free_less (drop i t.rows)) })
    unfolding table_bytes
    bytes-moved t i g h w =
        let ws = t.rows in
        let at = 16 + i * 1312 in
        let E = row_bytes (Some e) in
        let H = head_bytes t.head in
        let T = rows_bytes (take i ws) in
        let R = rows_bytes (drop i ws) in
        let n : length (take i ws) ≡ i = length-take-le i ws (omega (arith, free-within ws h)) in
        let l : length (H ++ T) ≡ at =
        length-append H T ∙ (λ j. head-length t.head j + (rows-length mark (take i ws) (good-take i ws g) ∙ ap (λ (m : ℕ). m * 1312) n) j) in
        let s : H ++ rows_bytes ws ≡ (H ++ T) ++ R =
        ap (λ (x : List ℕ). H ++ x) (ap rows_bytes (sym (take-append-drop i ws)) ∙ rows_append (take i ws) (drop i ws)) ∙ sym (append_assoc H T R) in
        let d : drop at ((H ++ T) ++ R) ≡ R = drop_at (H ++ T) R at l in
        let z : at ≡ at + 0 = omega arith in
        (λ j. pasted (s j) at (E ++ part (s j) at ((used_first ws - i) * 1312)))
        ∙ (λ j. pasted ((H ++ T) ++ R) (z j) (E ++ take (sym (used-drop i ws w) j * 1312) (d j)))
        ∙ pasted-skip (H ++ T) R at 0 (E ++ take (used_first (drop i ws) * 1312) R) l
        ∙ ap (λ (x : List ℕ). (H ++ T) ++ x) (rows-moved (drop i ws) (good-drop i ws g) (rw (free-drop i ws w) h))
        ∙ append_assoc H T (rows_bytes (Some e ∷ one_free_less (drop i ws)))
        ∙ ap (λ (x : List ℕ). H ++ x) (sym (rows_append (take i ws) (Some e ∷ one_free_less (drop i ws))))

module _ (t : Table) (e : Entry) (g : GoodOrdered t) (k : EntryGood t.head.mark.0 e) (n : find_row t.rows e.key ≡ None) (h : 0 < free_rows t.rows) where
  abbrev place : ℕ
  place = rows_below e.key t.rows

  abbrev free : ℕ
  free = used_first t.rows

  bytes-inserted : row_inserted (table_bytes t) place free e ≡ table_bytes (record { head = t.head; rows = insert_row t.rows e.key e.doc })
  unfolding row_inserted
  bytes-inserted =
      let w = place-within e.key t.rows in
      let fits : length e.key + length e.doc.value ≤ 1280 = omega (arith, k.key-most, k.value-most) in
      rw (table-count t g.good, le-leb place free w, lt-ltb free (length t.rows) (free-within t.rows h), le-leb (length e.key + length e.doc.value) 1280 fits)
      (bytes-moved t.head.mark.0 e k t place g.good.rows h w
      ∙ ap (λ (r : List Row). table_bytes (record { head = t.head; rows = r })) (sym (insert-new e.key e.doc t.rows n h)))

pub inserts-good : InsertsGood
inserts-good t key d g k n h =
    let e : Entry = record { key = key; doc = d } in
    let b = table_bytes t in
    let f : free_in 0 (table_of b).rows ≡ Some (used_first t.rows) =
    ap (λ (x : Table). free_in 0 x.rows) (good-sound t g.good).1 ∙ free-at t.rows 0 h ∙ ap Some (zero-add (used_first t.rows)) in
    ap (inserted_by b (rows_below key t.rows) e) f ∙ bytes-inserted t e g k n h
