-- A purge of memory, row by row.
use native.Mathlib.Omega.{arith}
use mathlib.Core.Path.{◌≡◌, sym, ap, ◌∙◌}
use mathlib.Core.Bool.{Bool, true, false, ◌&&◌, not}
use mathlib.Core.List.{List, ◌++◌, append_assoc}
use Prim.Native.Nat.{ℕ, suc, ◌+◌, ◌-◌, ◌≤◌, ◌<◌}
use lib.Dec.{eqb}
use lib.ListN.{length, take, drop, replicate, length-replicate, take-append-drop}
use lib.Seq.{drop-drop}
use borrow.Rule.Slice.PartMut.{put_mid}
use Rattle.octets.specs.Parts.{part, pasted}
use Rattle.octets.specs.BigEndian.{num}
use Rattle.octets.proofs.Choices.{cases}
use Rattle.octets.proofs.Lists.{part_length, take-pasted, drop-pasted}
use Rattle.document.specs.Documents.{Doc}
use Rattle.document.specs.Stored.{metadata_of, gone, gone_doc}
use Rattle.rows.specs.Row.{slot_of, doc_of, row_of}
use Rattle.rows.specs.Table.{row_count}
use Rattle.rows.proofs.OneRow.{row_cut}
use Rattle.plain.specs.Purge.{picked, one}
use Rattle.plain_writer.specs.Change.{purge_row, purge_bytes, purge_count, purged_rows, freed_rows}

-- the test of a row, by its fixed part
pub gone-row : (clock bound : ℕ) (r : List ℕ) → (not (eqb (num r 0 2) 0) && gone clock bound (metadata_of (doc_of r))) ≡ picked (gone_doc clock bound) (row_of r)
unfolding row_of doc_of slot_of gone_doc
gone-row clock bound r = cases (eqb (num r 0 2) 0) (λ t. rw t) (λ f. rw f)

module _ (p : Doc → Bool) where
  module _ (r : List ℕ) where
    pub row-freed : picked p (row_of r) ≡ true → purge_row p r ≡ replicate 1312 0
    unfolding purge_row
    row-freed e = rw e

    pub row_kept : picked p (row_of r) ≡ false → purge_row p r ≡ r
    unfolding purge_row
    row_kept e = rw e

    row-length : length r ≡ 1312 → length (purge_row p r) ≡ 1312
    row-length l =
        cases (picked p (row_of r))
        (λ t. ap length (row-freed t) ∙ length-replicate {A = ℕ} 1312 0)
        (λ f. ap length (row_kept f) ∙ l)

  module _ (s : List ℕ) (at : ℕ) (h : at + 1312 ≤ length s) where
    -- the row is lent, and comes back purged
    pub row_lent : (r : List ℕ) → r ≡ purge_row p (take (at + 1312 - at) (drop at s)) → put_mid at (at + 1312 - at) s r ≡ pasted s at (purge_row p (part s at 1312))
    unfolding pasted
    row_lent r e =
        let o = purge_row p (part s at 1312) in
        let q : r ≡ o = e ∙ ap (purge_row p) (row_cut s at) in
        let n : at + 1312 - at ≡ length o = omega (arith, row-length (part s at 1312) (part_length s at 1312 h)) in
        rw (q, n, drop-drop (length o) at s)

    -- a step of the loop over rows
    module _ (s' : List ℕ) (n : ℕ) (m : 0 < n) (e : s' ≡ pasted s at (purge_row p (part s at 1312))) where
      now-row : length (purge_row p (part s at 1312)) ≡ 1312
      now-row = row-length (part s at 1312) (part_length s at 1312 h)

      behind : drop (at + 1312) s' ≡ drop (at + 1312) s
      behind = let l = now-row in rw e (rw l at (drop-pasted s at (purge_row p (part s at 1312)) (omega arith)))

      before : take (at + 1312) s' ≡ take at s ++ purge_row p (part s at 1312)
      before = let l = now-row in rw e (rw l at (take-pasted s at (purge_row p (part s at 1312)) (omega arith)))

      one_more : n ≡ suc (n - 1)
      one_more = omega arith

      pub purge-step : take (at + 1312) s' ++ purge_bytes p (n - 1) (drop (at + 1312) s') ≡ take at s ++ purge_bytes p n (drop at s)
      purge-step =
          let q : purge_bytes p n (drop at s) ≡ purge_row p (part s at 1312) ++ purge_bytes p (n - 1) (drop (at + 1312) s) = ap (λ (k : ℕ). purge_bytes p k (drop at s)) one_more ∙ rw
          (drop-drop 1312 at s) in
          rw (before, behind, q, append_assoc)

      pub count-step : purge_count p n (drop at s) ≡ one (picked p (row_of (part s at 1312))) + purge_count p (n - 1) (drop (at + 1312) s')
      count-step = ap (λ (k : ℕ). purge_count p k (drop at s)) one_more ∙ rw (drop-drop 1312 at s, behind)

-- memory with no room for a header is left as it is
pub purge-none : (p : Doc → Bool) (b : List ℕ) → length b < 16 → (0 ≡ freed_rows p b) × (b ≡ purged_rows p b)
purge-none p b h = let z : row_count b ≡ 0 = omega arith in (rw z, rw z (sym (take-append-drop 16 b)))
