-- A header that is written is read back, and one that was read, written again, is the same bytes.
use Prim.Native.Nat.{ℕ, ◌+◌, ◌≤◌}
use mathlib.Core.Path.{◌≡◌, refl, ap₂, ◌∙◌}
use mathlib.Core.List.{List, ◌++◌}
use native.Mathlib.Omega.{arith}
use lib.ListN.{length, take, drop}
use Rattle.octets.specs.Parts.{Bytes, part}
use Rattle.octets.specs.BigEndian.{be_from, be, num, bytes_of}
use Rattle.octets.proofs.Lists.{glue}
use Rattle.octets.proofs.Numbers.{be-bytes, num-back}
use Rattle.header.specs.declared.Header.{Header}
use Rattle.header.specs.Header.{header_of, header_bytes, front_bytes, middle_bytes, back_bytes, HeaderFits}

pub length-header : (h : Header) → length (header_bytes h) ≡ 24
unfolding header_bytes front_bytes middle_bytes back_bytes bytes_of
length-header h = refl

-- what follows a header
pub after-header : (h : Header) (rest : List ℕ) → drop 24 (header_bytes h ++ rest) ≡ rest
unfolding header_bytes front_bytes middle_bytes back_bytes bytes_of
after-header h rest = refl

pub header-back : (h : Header) (rest : List ℕ) → HeaderFits h → header_of (header_bytes h ++ rest) ≡ h
unfolding header_of header_bytes front_bytes middle_bytes back_bytes bytes_of be be_from
header-back h rest k =
    λ i. record {
      magic = be-bytes 1 h.magic k.magic i;
      opcode = be-bytes 1 h.opcode k.opcode i;
      keylen = be-bytes 2 h.keylen k.keylen i;
      extlen = be-bytes 1 h.extlen k.extlen i;
      datatype = be-bytes 1 h.datatype k.datatype i;
      vbucket = be-bytes 2 h.vbucket k.vbucket i;
      body = be-bytes 4 h.body k.body i;
      opaque = be-bytes 4 h.opaque k.opaque i;
      cas = record { 0 = be-bytes 8 h.cas.0 k.cas i };
    }

-- a part and the part after it, as one
join : (s p q : List ℕ) (at n m : ℕ) → p ≡ part s at n → q ≡ part s (at + n) m → p ++ q ≡ part s at (n + m)
join s p q at n m e f = ap₂ ◌++◌ e f ∙ glue s at n m

pub header-again : (s : List ℕ) → 24 ≤ length s → Bytes s → header_bytes (header_of s) ≡ take 24 s
unfolding header_of header_bytes front_bytes middle_bytes back_bytes
header-again s l b =
    let back : (at n : ℕ) → at + n ≤ 24 → bytes_of n (num s at n) ≡ part s at n = λ at n h. num-back s at n b (omega arith) in
    let front = join s _ _ 0 1 3 (back 0 1 (omega arith)) (join s _ _ 1 1 2 (back 1 1 (omega arith)) (back 2 2 (omega arith))) in
    let middle = join s _ _ 4 1 3 (back 4 1 (omega arith)) (join s _ _ 5 1 2 (back 5 1 (omega arith)) (back 6 2 (omega arith))) in
    let tail = join s _ _ 8 4 12 (back 8 4 (omega arith)) (join s _ _ 12 4 8 (back 12 4 (omega arith)) (back 16 8 (omega arith))) in
    join s _ _ 0 4 20 front (join s _ _ 4 4 16 middle tail)
