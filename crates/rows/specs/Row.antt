-- A row's 1,312 bytes and what they mean: kind 2, key length 2, value length 4, flags 4, expiry 4, revision 8, CAS 8, then the key, the value and zeros without a gap.
use Rattle.std.specs.Prelude.{ℕ, ◌+◌, ◌-◌, List, ◌++◌, Bool, true, false, cond, length, replicate, eqb, Option, Some, None}
use Rattle.octets.specs.Parts.{part}
use Rattle.octets.specs.BigEndian.{num, bytes_of}
use Rattle.document.specs.Documents.{Doc, Entry}
use Rattle.rows.specs.declared.Slot.{Slot}

-- "A row is free, a document, or a tombstone."
abbrev pub Row : Type 0
Row = Option Entry

-- the fixed part of a row
unfoldable pub slot_of : List ℕ → Slot
slot_of r = record {
  kind = num r 0 2;
  keylen = num r 2 2;
  vallen = num r 4 4;
  numbers = record {
    flags = num r 8 4;
    expiry = num r 12 4;
    revision = record { 0 = num r 16 8 };
    cas = record { 0 = num r 24 8 };
  };
}

unfoldable pub size_bytes : Slot → List ℕ
size_bytes s = bytes_of 2 s.kind ++ (bytes_of 2 s.keylen ++ bytes_of 4 s.vallen)

unfoldable pub short_bytes : Slot → List ℕ
short_bytes s = bytes_of 4 s.numbers.flags ++ bytes_of 4 s.numbers.expiry

unfoldable pub long_bytes : Slot → List ℕ
long_bytes s = bytes_of 8 s.numbers.revision.0 ++ bytes_of 8 s.numbers.cas.0

unfoldable pub slot_bytes : Slot → List ℕ
unfolding size_bytes short_bytes long_bytes
slot_bytes s = size_bytes s ++ (short_bytes s ++ long_bytes s)

-- kind 0 is free, 1 a document, 2 a tombstone
abbrev pub kind_of : Bool → ℕ
kind_of true = 2
kind_of false = 1

unfoldable pub doc_of : List ℕ → Doc
doc_of r = record {
  tomb = eqb (slot_of r).kind 2;
  value = part r (32 + (slot_of r).keylen) (slot_of r).vallen;
  numbers = (slot_of r).numbers;
}

unfoldable pub key_of : List ℕ → List ℕ
key_of r = part r 32 (slot_of r).keylen

unfoldable pub row_of : List ℕ → Row
unfolding doc_of key_of
row_of r = cond (eqb (slot_of r).kind 0) None (Some (record { key = key_of r; doc = doc_of r }))

unfoldable pub slot_for : Entry → Slot
slot_for e = record { kind = kind_of e.doc.tomb; keylen = length e.key; vallen = length e.doc.value; numbers = e.doc.numbers }

-- a used row: what follows its key and value is zero
unfoldable pub used_bytes : Entry → List ℕ
unfolding slot_for slot_bytes
used_bytes e = slot_bytes (slot_for e) ++ (e.key ++ (e.doc.value ++ replicate (1280 - (length e.key + length e.doc.value)) 0))

-- a free row is all zero
unfoldable pub row_bytes : Row → List ℕ
unfolding used_bytes
row_bytes None = replicate 1312 0
row_bytes (Some e) = used_bytes e
