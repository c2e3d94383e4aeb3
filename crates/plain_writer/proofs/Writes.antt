-- What storing an entry in the row at a place leaves, and a document or a joined value where it holds the key.
use Prim.Native.Nat.{ℕ, ◌+◌, ◌-◌, ◌*◌, ◌≤◌, ◌<◌}
use mathlib.Core.Path.{◌≡◌, sym, ap, ◌∙◌}
use mathlib.Core.List.{List}
use native.Mathlib.Omega.{arith}
use lib.ListN.{length, take, drop}
use lib.Seq.{drop-drop}
use borrow.Rule.Slice.PartMut.{put_mid}
use borrow.Author.Tests.{lt-ltb, le-ltb}
use Rattle.octets.specs.Parts.{pasted}
use Rattle.document.specs.declared.Metadata.{Metadata}
use Rattle.document.specs.declared.Side.{Side}
use Rattle.document.specs.Documents.{Entry}
use Rattle.rows.specs.Table.{row_count, row_at}
use Rattle.row_writer.specs.Over.{over_bytes, over_row, updated_bytes, updated_row, joined_bytes, joined_row}
use Rattle.rows.proofs.OneRow.{row_cut, row-there, row-size}
use Rattle.row_writer.proofs.Writes.{length_over, over-one, length-update, update-one}
use Rattle.row_writer.proofs.Joined.{length-joined, join_one}
use Rattle.plain_writer.specs.Change.{row_stored, row_updated, row_joined}

module _ (b : List ℕ) (i : ℕ) where
  abbrev at : ℕ
  at = 16 + i * 1312

  -- the row is lent, and comes back with what a writer makes of it
  row-lent : i < row_count b → (f : List ℕ → List ℕ) (o r : List ℕ) → f (row_at b i) ≡ o → length o ≡ length (row_at b i) → r ≡ f (take (at + 1312 - at) (drop at b))
      → put_mid at (at + 1312 - at) b r ≡ pasted b at o
  unfolding pasted
  row-lent h f o r w l p =
      let q : r ≡ o = p ∙ ap f (row_cut b at ∙ sym (row-there b i h)) ∙ w in
      let n : at + 1312 - at ≡ length o = omega (arith, l, row-size b i h) in
      rw (q, n, drop-drop (length o) at b)

  -- an entry over it
  module _ (e : Entry) (old : ℕ) where
    pub put-there : i < row_count b → (r : List ℕ) → r ≡ over_row (take (at + 1312 - at) (drop at b)) e old → put_mid at (at + 1312 - at) b r ≡ row_stored b i e old
    unfolding row_stored
    put-there h r p =
        row-lent h (λ s. over_row s e old) (over_bytes (row_at b i) e old) r (over-one (row_at b i) e old (row-size b i h)) (length_over (row_at b i) e old) p
        ∙ rw (lt-ltb i (row_count b) h)

    pub put-nowhere : row_count b ≤ i → b ≡ row_stored b i e old
    unfolding row_stored
    put-nowhere h = rw (le-ltb i (row_count b) h)

  -- a document over it, which holds the key
  module _ (k : ℕ) (m : Metadata) (value : List ℕ) (old : ℕ) where
    pub update-there : i < row_count b → (r : List ℕ) → r ≡ updated_row (take (at + 1312 - at) (drop at b)) k m value old → put_mid at (at + 1312 - at) b r ≡ row_updated b i k m value old
    unfolding row_updated
    update-there h r p =
        let w = row_at b i in
        row-lent h (λ s. updated_row s k m value old) (updated_bytes w k m value old) r (update-one w k m value old (row-size b i h)) (length-update w k m value old) p
        ∙ rw (lt-ltb i (row_count b) h)

    pub update-nowhere : row_count b ≤ i → b ≡ row_updated b i k m value old
    unfolding row_updated
    update-nowhere h = rw (le-ltb i (row_count b) h)

  -- a value joined to the one that it holds
  module _ (k : ℕ) (m : Metadata) (side : Side) (value : List ℕ) (old : ℕ) where
    pub join-there : i < row_count b → (r : List ℕ) → r ≡ joined_row (take (at + 1312 - at) (drop at b)) k m side value old
        → put_mid at (at + 1312 - at) b r ≡ row_joined b i k m side value old
    unfolding row_joined
    join-there h r p =
        let w = row_at b i in
        row-lent h (λ s. joined_row s k m side value old) (joined_bytes w k m side value old) r (join_one w k m value old side (row-size b i h)) (length-joined w k m value old side) p
        ∙ rw (lt-ltb i (row_count b) h)

    pub join-nowhere : row_count b ≤ i → b ≡ row_joined b i k m side value old
    unfolding row_joined
    join-nowhere h = rw (le-ltb i (row_count b) h)
