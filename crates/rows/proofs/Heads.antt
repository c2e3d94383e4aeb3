-- A table's head: its bytes are 16, and the first 16 bytes say it.
use native.Mathlib.Omega.{arith}
use Prim.Native.Nat.{ℕ, zero, suc, ◌+◌, ◌≤◌}
use mathlib.Core.Path.{◌≡◌, refl}
use mathlib.Core.List.{List, [], ◌∷◌}
use lib.ListN.{length, take}
use lib.Seq.{take-take}
use Rattle.octets.specs.Parts.{part}
use Rattle.octets.specs.BigEndian.{be, bytes_of}
use Rattle.document.specs.declared.Head.{Head}
use Rattle.rows.specs.Table.{head_of, head_bytes}

pub head-length : (h : Head) → length (head_bytes h) ≡ 16
unfolding head_bytes bytes_of
head-length h = refl

-- a part of a part
pub part_in : (s : List ℕ) (a v n : ℕ) → a + v ≤ n → part (take n s) a v ≡ part s a v
part_in s zero v n h = take-take v n s (omega arith)
part_in s (suc a) v zero h = absurd (omega arith)
part_in [] (suc a) v (suc n) h = refl
part_in (x ∷ s) (suc a) v (suc n) h = part_in s a v n (omega arith)

pub head_first : (b : List ℕ) → head_of (take 16 b) ≡ head_of b
unfolding head_of
head_first b =
    λ i. record {
      state = be (part_in b 0 1 16 (omega arith) i);
      mode = be (part_in b 1 1 16 (omega arith) i);
      vbucket = be (part_in b 2 2 16 (omega arith) i);
      clock = be (part_in b 4 4 16 (omega arith) i);
      mark = record { 0 = be (part_in b 8 8 16 (omega arith) i) };
    }
