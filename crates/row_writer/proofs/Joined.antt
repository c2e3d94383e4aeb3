-- A value joined in place to the one that a row holds is the joined value written over the row.
use Prim.Native.Nat.{ℕ, ◌+◌, ◌≤◌, ◌<◌}
use mathlib.Core.Path.{◌≡◌, refl, sym, ap, ◌∙◌}
use mathlib.Core.List.{List, ◌++◌}
use native.Mathlib.Omega.{arith}
use lib.Dec.{leb}
use lib.ListN.{length, take, drop, length-append}
use lib.Seq.{drop-drop}
use borrow.Author.Tests.{eq-eqb, ne_eqb, le-leb, lt-leb}
use Rattle.octets.specs.Parts.{part, pasted, written}
use Rattle.octets.specs.BigEndian.{bytes_of}
use Rattle.octets.proofs.Choices.{cases}
use Rattle.octets.proofs.Lists.{part_length, pasted-before, drop-pasted, written-fits, length-written, then}
use Rattle.document.specs.declared.Metadata.{Metadata}
use Rattle.document.specs.declared.Side.{Side}
use Rattle.document.specs.declared.Side.TheVariants.{Front, Back}
use Rattle.document.specs.Documents.{joined}
use Rattle.rows.specs.Row.{size_bytes, short_bytes, long_bytes, slot_bytes}
use Rattle.row_writer.specs.Over.{slot_sized, updated_bytes, joined_bytes, joined_row}
use Rattle.row_writer.proofs.Writes.{stands, update-longer, length-update}

module _ (r : List ℕ) (k : ℕ) (m : Metadata) (value : List ℕ) (old : ℕ) where
  -- the value that stands there
  abbrev there : List ℕ
  there = part r (32 + k) old

  -- the fixed part is written first
  module _ (l : length r ≡ 1312) (room : k + (old + length value) ≤ 1280) (fixed : List ℕ) (f : fixed ≡ written r 0 (slot_bytes (slot_sized k m (old + length value)))) where
    length-fixed : length fixed ≡ 1312
    length-fixed = ap length f ∙ length-written r 0 (slot_bytes (slot_sized k m (old + length value))) ∙ l

    length-there : length there ≡ old
    length-there = part_length r (32 + k) old (omega arith)

    -- the value still stands there
    behind : drop 32 fixed ≡ drop 32 r
    unfolding slot_bytes size_bytes short_bytes long_bytes bytes_of
    behind =
        let h = slot_bytes (slot_sized k m (old + length value)) in
        ap (drop 32) (f ∙ written-fits r 0 h (omega arith)) ∙ drop-pasted r 0 h (omega arith)

    still : part fixed (32 + k) old ≡ there
    still = ap (take old) (sym (drop-drop k 32 fixed) ∙ ap (drop k) behind ∙ drop-drop k 32 r)

    self : fixed ≡ written fixed (32 + k) there
    self = stands fixed (32 + k) old there (omega (arith, length-fixed)) still

    -- what is written of the joined value, taken for all of it
    over : (side : Side) (s : List ℕ) → length (joined side there value) ≡ old + length value → s ≡ written fixed (32 + k) (joined side there value) → s ≡ joined_bytes r k m side value old
    unfolding joined_bytes
    over side s n p =
        let w = joined side there value in
        let g : fixed ≡ written r 0 (slot_bytes (slot_sized k m (length w))) = f ∙ ap (λ (j : ℕ). written r 0 (slot_bytes (slot_sized k m j))) (sym n) in
        update-longer r k m w old (omega arith) fixed s g p l (omega arith) ∙ rw (le-leb (k + (old + length value)) 1280 room)

    pub joined_back : (s : List ℕ) → s ≡ written fixed (32 + k + old) value → s ≡ joined_bytes r k m Back value old
    joined_back s p =
        let n : length (there ++ value) ≡ old + length value = length-append there value ∙ ap (λ (j : ℕ). j + length value) length-there in
        over Back s n (then fixed fixed s (32 + k) (32 + k + old) there value self p (omega (arith, length-there)) (omega (arith, length-fixed)))

    pub joined-front : (s1 s : List ℕ) → s1 ≡ written fixed (32 + k + length value) (part fixed (32 + k) old) → s ≡ written s1 (32 + k) value → s ≡ joined_bytes r k m Front value old
    joined-front s1 s p q =
        let at = 32 + k in
        let n : length (value ++ there) ≡ old + length value = length-append value there ∙ omega (arith, length-there) in
        let p' : s1 ≡ written fixed (at + length value) there = p ∙ ap (written fixed (at + length value)) still in
        let j : length s1 ≡ 1312 = ap length p' ∙ length-written fixed (at + length value) there ∙ length-fixed in
        let e : s1 ≡ pasted fixed (at + length value) there = p' ∙ written-fits fixed (at + length value) there (omega (arith, length-there, length-fixed)) in
        over Front s n
        (q ∙ written-fits s1 at value (omega arith) ∙ ap (λ (t : List ℕ). pasted t at value) e
        ∙ pasted-before fixed at (length value) value there refl (omega (arith, length-there, length-fixed))
        ∙ sym (written-fits fixed at (value ++ there) (omega (arith, n, length-fixed))))

  module _ (side : Side) where
    pub length-joined : length (joined_bytes r k m side value old) ≡ length r
    unfolding joined_bytes
    length-joined = cases (leb (k + (old + length value)) 1280) (λ t. rw t (length-update r k m (joined side there value) old)) (λ f. rw f)

    pub joined-there : (w : List ℕ) → there ≡ w → k + (old + length value) ≤ 1280 → joined_bytes r k m side value old ≡ updated_bytes r k m (joined side w value) old
    unfolding joined_bytes
    joined-there w e room = rw (le-leb (k + (old + length value)) 1280 room, e)

    -- by the row's length, and by whether the two fit
    pub join-other : (length r ≡ 1312 → ⊥) → r ≡ joined_row r k m side value old
    unfolding joined_row
    join-other n = rw (ne_eqb (length r) 1312 n)

    module _ (l : length r ≡ 1312) where
      pub join_one : joined_row r k m side value old ≡ joined_bytes r k m side value old
      unfolding joined_row
      join_one = rw (eq-eqb (length r) 1312 l)

      pub join-unfit : 1280 < k + (old + length value) → r ≡ joined_row r k m side value old
      unfolding joined_bytes
      join-unfit h = sym (join_one ∙ rw (lt-leb (k + (old + length value)) 1280 h))
