-- What writing a head, and an entry over a row, leaves.
use Prim.Native.Nat.{ℕ, ◌+◌, ◌-◌, ◌≤◌, ◌<◌}
use mathlib.Core.Path.{◌≡◌, refl, sym, ap, ◌∙◌}
use mathlib.Core.List.{List, ◌++◌, append_assoc}
use native.Mathlib.Omega.{arith}
use native.Mathlib.Nat.{add_assoc}
use lib.Dec.{leb}
use lib.ListN.{length, replicate, length-append}
use borrow.Author.Tests.{eq-eqb, ne_eqb, le-leb, lt-leb}
use Rattle.octets.specs.Parts.{part, pasted, written}
use Rattle.octets.specs.BigEndian.{bytes_of}
use Rattle.octets.proofs.Choices.{cases}
use Rattle.octets.proofs.Lists.{part_length, pasted-self, length-written, written-fits, written_none, written-not, then, then-two, before}
use Rattle.document.specs.Documents.{Key, Entry}
use Rattle.document.specs.Stored.{metadata_of}
use Rattle.document.specs.declared.Head.{Head}
use Rattle.document.specs.declared.Metadata.{Metadata}
use Rattle.rows.specs.declared.Slot.{Slot}
use Rattle.rows.specs.Row.{size_bytes, short_bytes, long_bytes, slot_bytes, slot_for}
use Rattle.rows.specs.Table.{head_bytes}
use Rattle.rows.proofs.Heads.{head-length}
use Rattle.row_writer.specs.Over.{over_bytes, over_row, slot_sized, updated_bytes, updated_row}

pub head-unfit : (s : List ℕ) (h : Head) → length s < 16 → s ≡ written s 0 (head_bytes h)
head-unfit s h l = let n = head-length h in sym (written-not s 0 (head_bytes h) (omega arith))

-- the five writes of a head
pub head-put : (s0 s1 s2 s3 s4 s5 : List ℕ) (h : Head) → 16 ≤ length s0
    → s1 ≡ written s0 0 (bytes_of 1 h.state) → s2 ≡ written s1 1 (bytes_of 1 h.mode) → s3 ≡ written s2 2 (bytes_of 2 h.vbucket)
    → s4 ≡ written s3 4 (bytes_of 4 h.clock) → s5 ≡ written s4 8 (bytes_of 8 h.mark.0)
    → s5 ≡ written s0 0 (head_bytes h)
unfolding head_bytes bytes_of
head-put s0 s1 s2 s3 s4 s5 h l p q r t u =
    let m : length s2 ≡ length s0 = ap length q ∙ length-written s1 1 (bytes_of 1 h.mode) ∙ ap length p ∙ length-written s0 0 (bytes_of 1 h.state) in
    let k : length s3 ≡ length s2 = ap length r ∙ length-written s2 2 (bytes_of 2 h.vbucket) in
    let f = then s3 s4 s5 4 8 (bytes_of 4 h.clock) (bytes_of 8 h.mark.0) t u refl (omega arith) in
    let g = then s2 s3 s5 2 4 (bytes_of 2 h.vbucket) (bytes_of 4 h.clock ++ bytes_of 8 h.mark.0) r f refl (omega arith) in
    then-two s0 s1 s2 s5 0 1 2 (bytes_of 1 h.state) (bytes_of 1 h.mode) (bytes_of 2 h.vbucket ++ (bytes_of 4 h.clock ++ bytes_of 8 h.mark.0)) p q g refl refl (omega arith)

-- an entry's bytes but for its zeros
pub length-body : (e : Entry) → length (slot_bytes (slot_for e) ++ (e.key ++ e.doc.value)) ≡ 32 + (length e.key + length e.doc.value)
unfolding slot_bytes size_bytes short_bytes long_bytes bytes_of
length-body e = simp length-append (omega arith)

-- a fixed part, and a key after it
slot-length : (h : Slot) → length (slot_bytes h) ≡ 32
unfolding slot_bytes size_bytes short_bytes long_bytes bytes_of
slot-length h = refl

length_front : (h : Slot) (key : Key) → length (slot_bytes h ++ key) ≡ 32 + length key
unfolding slot_bytes size_bytes short_bytes long_bytes bytes_of
length_front h key = simp length-append (omega arith)

-- what stands there already need not be written
pub stands : (s : List ℕ) (at n : ℕ) (xs : List ℕ) → at + n ≤ length s → part s at n ≡ xs → s ≡ written s at xs
stands s at n xs h e =
    let l : length xs ≡ n = ap length (sym e) ∙ part_length s at n h in
    pasted-self s at n h ∙ ap (pasted s at) e ∙ sym (written-fits s at xs (omega arith))

-- a document written over a row that holds its key
module _ (r : List ℕ) (k : ℕ) (m : Metadata) (value : List ℕ) (old : ℕ) where
  abbrev fixed : List ℕ
  fixed = written r 0 (slot_bytes (slot_sized k m (length value)))

  -- zeros after the value where the one before was longer
  module _ (room : k + length value ≤ 1280) (s1 s : List ℕ) (f : s1 ≡ fixed) (p : s ≡ written s1 (32 + k) value) where
    parts-put : s ≡ written fixed (32 + k) value
    parts-put = p ∙ ap (λ (t : List ℕ). written t (32 + k) value) f

    pub update-zeroed : (s' : List ℕ) → s' ≡ written s (32 + k + length value) (replicate (old - length value) 0) → s' ≡ updated_bytes r k m value old
    unfolding updated_bytes
    update-zeroed s' t = t ∙ rw (parts-put, le-leb (k + length value) 1280 room, add_assoc 32 k (length value))

    pub update-longer : length r ≡ 1312 → old ≤ length value → s ≡ updated_bytes r k m value old
    unfolding updated_bytes
    update-longer l h =
        let z : old - length value ≡ 0 = omega arith in
        let n : length s ≡ 1312 = ap length parts-put ∙ length-written fixed (32 + k) value ∙ length-written r 0 (slot_bytes (slot_sized k m (length value))) ∙ l in
        rw (le-leb (k + length value) 1280 room, z, ← parts-put) (sym (written_none s (32 + (k + length value)) (omega arith)))

  pub length-update : length (updated_bytes r k m value old) ≡ length r
  unfolding updated_bytes
  length-update =
      let zs = replicate {A = ℕ} (old - length value) 0 in
      cases (leb (k + length value) 1280)
      (λ t. rw t
      (length-written (written fixed (32 + k) value) (32 + (k + length value)) zs ∙ length-written fixed (32 + k) value ∙ length-written r 0 (slot_bytes (slot_sized k m (length value)))))
      (λ f. rw f)

  -- by the row's length, and by whether key and value fit
  pub update_other : (length r ≡ 1312 → ⊥) → r ≡ updated_row r k m value old
  unfolding updated_row
  update_other n = rw (ne_eqb (length r) 1312 n)

  module _ (l : length r ≡ 1312) where
    pub update-one : updated_row r k m value old ≡ updated_bytes r k m value old
    unfolding updated_row
    update-one = rw (eq-eqb (length r) 1312 l)

    pub update-unfit : 1280 < k + length value → r ≡ updated_row r k m value old
    unfolding updated_bytes
    update-unfit h = sym (update-one ∙ rw (lt-leb (k + length value) 1280 h))

-- where the key was written first, or stands there already, that is the whole entry written over the row
pub update-over : (r s : List ℕ) (e : Entry) (old : ℕ) → length r ≡ 1312 → length e.key + length e.doc.value ≤ 1280 → s ≡ written r 32 e.key
    → updated_bytes s (length e.key) (metadata_of e.doc) e.doc.value old ≡ over_bytes r e old
unfolding updated_bytes over_bytes slot_for
update-over r s e old l room p =
    let h = slot_for e in
    let k = length e.key in
    let v = e.doc.value in
    let a = before r s (written s 0 (slot_bytes h)) 32 e.key (slot_bytes h) p refl (slot-length h) (omega arith) in
    let b = then r (written s 0 (slot_bytes h)) (written (written s 0 (slot_bytes h)) (32 + k) v) 0 (32 + k) (slot_bytes h ++ e.key) v a refl (omega (arith, length_front h e.key)) (omega arith) in
    let w : written (written s 0 (slot_bytes h)) (32 + k) v ≡ written r 0 (slot_bytes h ++ (e.key ++ v)) = rw append_assoc at b in
    rw (le-leb (k + length v) 1280 room) (ap (λ (t : List ℕ). written t (32 + (k + length v)) (replicate (old - length v) 0)) w)

module _ (r : List ℕ) (e : Entry) (old : ℕ) where
  pub length_over : length (over_bytes r e old) ≡ length r
  unfolding over_bytes
  length_over =
      let body = slot_bytes (slot_for e) ++ (e.key ++ e.doc.value) in
      length-written (written r 0 body) (32 + (length e.key + length e.doc.value)) (replicate (old - length e.doc.value) 0)
      ∙ length-written r 0 body

  -- by the row's length, and by whether the entry fits
  pub other_length : (length r ≡ 1312 → ⊥) → r ≡ over_row r e old
  unfolding over_row
  other_length n = rw (ne_eqb (length r) 1312 n)

  module _ (l : length r ≡ 1312) where
    pub over-one : over_row r e old ≡ over_bytes r e old
    unfolding over_row
    over-one = rw (eq-eqb (length r) 1312 l)

    pub over-unfit : 1280 < length e.key + length e.doc.value → r ≡ over_row r e old
    unfolding over_bytes
    over-unfit h =
        let body = slot_bytes (slot_for e) ++ (e.key ++ e.doc.value) in
        let zs = replicate {A = ℕ} (old - length e.doc.value) 0 in
        let n = length-body e in
        let w : written r 0 body ≡ r = written-not r 0 body (omega arith) in
        sym (over-one ∙ ap (λ (s : List ℕ). written s (32 + (length e.key + length e.doc.value)) zs) w
        ∙ written-not r (32 + (length e.key + length e.doc.value)) zs (omega arith))
