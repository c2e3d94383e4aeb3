-- An entry written over a row leaves the entry's own bytes where what follows the value before it is zero.
use Prim.Native.Nat.{ℕ, zero, suc, ◌+◌, ◌-◌, ◌≤◌}
use native.Mathlib.Omega.{arith}
use native.Mathlib.Nat.{zero-add}
use mathlib.Core.Path.{◌≡◌, refl, sym, ap, ◌∙◌}
use mathlib.Core.Bool.{true}
use mathlib.Core.List.{List, [], ◌∷◌, ◌++◌, append_assoc}
use Rattle.std.specs.Prelude.{Some, None}
use lib.Dec.{eqb}
use lib.ListN.{length, drop, replicate, length-append, length-drop, length-replicate, replicate-append-replicate}
use lib.Seq.{drop-drop}
use Rattle.octets.specs.Parts.{part, pasted, written}
use Rattle.octets.specs.Compare.{zeros}
use Rattle.octets.proofs.Choices.{both}
use Rattle.octets.proofs.Lists.{written-fits, then}
use Rattle.octets.proofs.Tests.{zeros-true, zeros-replicate}
use Rattle.document.specs.Documents.{Key, Entry}
use Rattle.document.specs.Stored.{metadata_of}
use Rattle.rows.specs.Row.{slot_bytes, slot_for, used_bytes, row_bytes}
use Rattle.rows.specs.Good.{EntryGood}
use Rattle.row_writer.specs.Over.{over_bytes, updated_bytes}
use Rattle.row_writer.proofs.Writes.{length-body, stands, update-over}
use Rattle.rows.proofs.RowLaws.{row-length, key-read, after-value}

pub zeros-drop : (n : ℕ) (s : List ℕ) → zeros s ≡ true → zeros (drop n s) ≡ true
unfolding zeros
zeros-drop zero s z = z
zeros-drop (suc n) [] z = refl
zeros-drop (suc n) (x ∷ s) z = zeros-drop n s (both (eqb x 0) (zeros s) z).1

-- a write from the start on
at-start : (s xs : List ℕ) (n : ℕ) → length xs ≡ n → pasted s 0 xs ≡ xs ++ drop n s
unfolding pasted
at-start s xs n e = rw (zero-add, e)

-- what follows a key of this length and a value of length old is zero
module _ (r : List ℕ) (e : Entry) (old : ℕ) (l : length r ≡ 1312) (room : length e.key + length e.doc.value ≤ 1280)
    (most : length e.key + old ≤ 1280) (after : zeros (drop (32 + (length e.key + old)) r) ≡ true) where
  abbrev size : ℕ
  size = length e.key + length e.doc.value

  abbrev body : List ℕ
  body = slot_bytes (slot_for e) ++ (e.key ++ e.doc.value)

  -- what was in use past the entry, and what is left of the row after both
  abbrev over : ℕ
  over = old - length e.doc.value

  abbrev left : ℕ
  left = 1280 - size - over

  length_both : length (body ++ replicate over 0) ≡ 32 + size + over
  length_both = length-append body (replicate over 0) ∙ (λ i. length-body e i + length-replicate {A = ℕ} over 0 i)

  one-write : over_bytes r e old ≡ written r 0 (body ++ replicate over 0)
  unfolding over_bytes
  one-write =
      let z : length (replicate {A = ℕ} over 0) ≡ over = length-replicate over 0 in
      then r (written r 0 body) (over_bytes r e old) 0 (32 + size) body (replicate over 0) refl refl (omega (arith, length-body e)) (omega arith)

  rest-zero : drop (32 + size + over) r ≡ replicate left 0
  rest-zero =
      let at = 32 + size + over in
      let from = 32 + (length e.key + old) in
      let j : at ≡ from + (at - from) = omega arith in
      let z : zeros (drop at r) ≡ true = rw (j, ← drop-drop (at - from) from r) (zeros-drop (at - from) (drop from r) after) in
      let n : length (drop at r) ≡ left = simp length-drop (omega arith) in
      zeros-true (drop at r) z ∙ ap (λ (k : ℕ). replicate k 0) n

  all-zeros : replicate {A = ℕ} over 0 ++ replicate left 0 ≡ replicate (1280 - size) 0
  all-zeros =
      let k : over + left ≡ 1280 - size = omega arith in
      replicate-append-replicate {A = ℕ} over left 0 ∙ ap (λ (n : ℕ). replicate n 0) k

  padded-row : body ++ replicate (1280 - size) 0 ≡ row_bytes (Some e)
  unfolding row_bytes used_bytes
  padded-row = simp append_assoc

  pub over-row : over_bytes r e old ≡ row_bytes (Some e)
  over-row =
      one-write
      ∙ written-fits r 0 (body ++ replicate over 0) (omega (arith, length_both))
      ∙ at-start r (body ++ replicate over 0) (32 + size + over) length_both
      ∙ ap (λ (t : List ℕ). (body ++ replicate over 0) ++ t) rest-zero
      ∙ append_assoc body (replicate over 0) (replicate left 0)
      ∙ ap (λ (t : List ℕ). body ++ t) all-zeros
      ∙ padded-row

-- over a row of the same key, and over a free one
module _ (mark : ℕ) (e : Entry) (g : EntryGood mark e) where
  pub over-used : (x : Entry) → EntryGood mark x → x.key ≡ e.key → over_bytes (row_bytes (Some x)) e (length x.doc.value) ≡ row_bytes (Some e)
  unfolding row_bytes
  over-used x f k =
      let n : length x.key ≡ length e.key = ap length k in
      let left = 1280 - (length x.key + length x.doc.value) in
      over-row (row_bytes (Some x)) e (length x.doc.value) (row-length mark (Some x) f) (omega (arith, g.key-most, g.value-most)) (omega (arith, f.key-most, f.value-most))
      (ap (λ (m : ℕ). zeros (drop (32 + (m + length x.doc.value)) (row_bytes (Some x)))) (sym n) ∙ ap zeros (after-value x) ∙ zeros-replicate left)

  -- the key stands there
  pub update-used : (x : Entry) → EntryGood mark x → x.key ≡ e.key
      → updated_bytes (row_bytes (Some x)) (length e.key) (metadata_of e.doc) e.doc.value (length x.doc.value) ≡ row_bytes (Some e)
  unfolding row_bytes
  update-used x f k =
      let r = row_bytes (Some x) in
      let l = row-length mark (Some x) f in
      let held : part r 32 (length e.key) ≡ e.key = ap (λ (key : Key). part r 32 (length key)) (sym k) ∙ key-read x ∙ k in
      update-over r r e (length x.doc.value) l (omega (arith, g.key-most, g.value-most)) (stands r 32 (length e.key) e.key (omega (arith, g.key-most, l)) held)
      ∙ over-used x f k

  pub over-free : over_bytes (row_bytes None) e 0 ≡ row_bytes (Some e)
  unfolding row_bytes
  over-free =
      over-row (row_bytes None) e 0 (row-length mark None tt) (omega (arith, g.key-most, g.value-most)) (omega (arith, g.key-most))
      (zeros-drop (32 + (length e.key + 0)) (row_bytes None) (zeros-replicate 1312))
