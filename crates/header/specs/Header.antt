-- The 24 bytes that open every frame, by document 000: magic, opcode, key length, extras length, datatype, vbucket (in a reply: status), body length, opaque, CAS.
use Rattle.std.specs.Prelude.{ℕ, ◌^◌, ◌<◌, List, ◌++◌}
use Rattle.octets.specs.BigEndian.{num, bytes_of}
use Rattle.header.specs.declared.Header.{Header}

-- the fields at the start of a list of bytes
unfoldable pub header_of : List ℕ → Header
header_of s = record {
  magic = num s 0 1;
  opcode = num s 1 1;
  keylen = num s 2 2;
  extlen = num s 4 1;
  datatype = num s 5 1;
  vbucket = num s 6 2;
  body = num s 8 4;
  opaque = num s 12 4;
  cas = record { 0 = num s 16 8 };
}

-- the bytes of a header, in three runs
unfoldable pub front_bytes : Header → List ℕ
front_bytes h = bytes_of 1 h.magic ++ (bytes_of 1 h.opcode ++ bytes_of 2 h.keylen)

unfoldable pub middle_bytes : Header → List ℕ
middle_bytes h = bytes_of 1 h.extlen ++ (bytes_of 1 h.datatype ++ bytes_of 2 h.vbucket)

unfoldable pub back_bytes : Header → List ℕ
back_bytes h = bytes_of 4 h.body ++ (bytes_of 4 h.opaque ++ bytes_of 8 h.cas.0)

unfoldable pub header_bytes : Header → List ℕ
unfolding front_bytes middle_bytes back_bytes
header_bytes h = front_bytes h ++ (middle_bytes h ++ back_bytes h)

-- every field fits its place, as it does in every value of the declared type
pub record HeaderFits (h : Header) : Type 0 where
  pub magic : h.magic < 256
  pub opcode : h.opcode < 256
  pub keylen : h.keylen < 65536
  pub extlen : h.extlen < 256
  pub datatype : h.datatype < 256
  pub vbucket : h.vbucket < 65536
  pub body : h.body < 2 ^ 32
  pub opaque : h.opaque < 2 ^ 32
  pub cas : h.cas.0 < 2 ^ 64
