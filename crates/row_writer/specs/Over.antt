-- For the code alone: an entry written over a row's bytes, a document over those of a row that holds its key, or a value joined to the one that stands there. Of what follows the value, only the bytes that the value before it used become zero. On a row that keeps its rules this leaves the entry's own bytes (row_writer/proofs/Over.antt).
use Rattle.std.specs.Prelude.{ℕ, ◌+◌, ◌-◌, cond, List, ◌++◌, eqb, leb, length, replicate}
use Rattle.octets.specs.Parts.{part, written}
use Rattle.document.specs.declared.Metadata.{Metadata}
use Rattle.document.specs.declared.Side.{Side}
use Rattle.document.specs.Documents.{Entry, joined}
use Rattle.rows.specs.declared.Slot.{Slot}
use Rattle.rows.specs.Row.{slot_bytes, slot_for, kind_of}

-- fixed part, key and value, then zeros to where a value of length old ended; the rest is left
unfoldable pub over_bytes : List ℕ → Entry → ℕ → List ℕ
over_bytes r e old =
    written (written r 0 (slot_bytes (slot_for e) ++ (e.key ++ e.doc.value)))
    (32 + (length e.key + length e.doc.value)) (replicate (old - length e.doc.value) 0)

-- the same over a row of 1,312 bytes, and other memory unchanged; an entry that doesn't fit the row leaves it unchanged too
unfoldable pub over_row : List ℕ → Entry → ℕ → List ℕ
unfolding over_bytes
over_row r e old = cond (eqb (length r) 1312) (over_bytes r e old) r

-- the fixed part of a row whose key and value have so many bytes
abbrev pub slot_sized : ℕ → Metadata → ℕ → Slot
slot_sized k m n = record { kind = kind_of m.tomb; keylen = k; vallen = n; numbers = m.numbers }

-- a document over a row that holds its key, of k bytes: fixed part, value and zeros, and the key is left as it stands; a row without room for both is left unchanged
unfoldable pub updated_bytes : List ℕ → ℕ → Metadata → List ℕ → ℕ → List ℕ
updated_bytes r k m value old =
    cond (leb (k + length value) 1280)
    (written (written (written r 0 (slot_bytes (slot_sized k m (length value)))) (32 + k) value) (32 + (k + length value)) (replicate (old - length value) 0))
    r

unfoldable pub updated_row : List ℕ → ℕ → Metadata → List ℕ → ℕ → List ℕ
unfolding updated_bytes
updated_row r k m value old = cond (eqb (length r) 1312) (updated_bytes r k m value old) r

-- a value joined to the one of length old that stands after a key of k bytes; a row without room for both is left unchanged
unfoldable pub joined_bytes : List ℕ → ℕ → Metadata → Side → List ℕ → ℕ → List ℕ
unfolding updated_bytes
joined_bytes r k m side value old = cond (leb (k + (old + length value)) 1280) (updated_bytes r k m (joined side (part r (32 + k) old) value) old) r

unfoldable pub joined_row : List ℕ → ℕ → Metadata → Side → List ℕ → ℕ → List ℕ
unfolding joined_bytes
joined_row r k m side value old = cond (eqb (length r) 1312) (joined_bytes r k m side value old) r
