-- What making a table leaves: the header's numbers and zeros over all of the memory are a fresh table.
use native.Mathlib.Omega.{arith}
use mathlib.Core.Path.{◌≡◌, sym, ap, ◌∙◌}
use mathlib.Core.Bool.{true, false, ◌&&◌}
use mathlib.Core.List.{List, ◌++◌, append-nil}
use Prim.Native.Nat.{ℕ, ◌+◌, ◌*◌, ◌≤◌}
use lib.Dec.{leb, eqb}
use lib.ListN.{length, replicate, length-append, length-replicate, drop_of_length-le}
use borrow.Author.Tests.{leb-true, eqb-true}
use Rattle.octets.specs.Parts.{pasted, written}
use Rattle.octets.proofs.Choices.{both}
use Rattle.octets.proofs.Lists.{then, written-fits}
use Rattle.rows.specs.Table.{head_bytes, table_bytes, fresh}
use Rattle.rows.proofs.Heads.{head-length}
use Rattle.rows.specs.RowRules.{size_ok}
use Rattle.plain.proofs.ChangeLaws.{fresh-bytes}
use Rattle.owning.specs.Owner.{make_ok, make_outcome, made}

pasted-all : (s xs : List ℕ) → length xs ≡ length s → pasted s 0 xs ≡ xs
unfolding pasted
pasted-all s xs e = ap (λ (t : List ℕ). xs ++ t) (drop_of_length-le s {i = 0 + length xs} (omega arith)) ∙ append-nil xs

-- the two writes of a fresh table
pub fresh-put : (s0 s1 s2 : List ℕ) (n state mode vbucket : ℕ) → length s0 ≡ 16 + n * 1312
    → s1 ≡ written s0 0 (head_bytes (fresh n state mode vbucket).head) → s2 ≡ written s1 16 (replicate (n * 1312) 0)
    → s2 ≡ table_bytes (fresh n state mode vbucket)
fresh-put s0 s1 s2 n state mode vbucket l p q =
    let a = head_bytes (fresh n state mode vbucket).head in
    let z = replicate {A = ℕ} (n * 1312) 0 in
    let la : length a ≡ 16 = head-length (fresh n state mode vbucket).head in
    let lz : length z ≡ n * 1312 = length-replicate (n * 1312) 0 in
    let all : length (a ++ z) ≡ length s0 = length-append a z ∙ omega arith in
    then s0 s1 s2 0 16 a z p q (omega arith) (omega arith)
    ∙ written-fits s0 0 (a ++ z) (omega arith)
    ∙ pasted-all s0 (a ++ z) all
    ∙ sym (fresh-bytes n state mode vbucket)

module _ (b : List ℕ) (n state mode vbucket : ℕ) where
  module _ (e : make_ok (length b) n state mode ≡ false) where
    pub refused : (5 ≡ make_outcome (length b) n state mode) × (b ≡ made b n state mode vbucket)
    unfolding make_outcome made
    refused = (rw e, rw e)

  module _ (e : make_ok (length b) n state mode ≡ true) where
    pub accepted : (0 ≡ make_outcome (length b) n state mode) × (table_bytes (fresh n state mode vbucket) ≡ made b n state mode vbucket)
    unfolding make_outcome made
    accepted = (rw e, rw e)

-- what is in range where a table is made
pub record InRange (len n st md : ℕ) : Type 0 where
  pub least : 1 ≤ n
  pub most : n ≤ 256
  pub size : len ≡ 16 + n * 1312
  pub state : (1 ≤ st) × (st ≤ 4)
  pub mode : (1 ≤ md) × (md ≤ 2)

pub in-range : (len n state mode : ℕ) → make_ok len n state mode ≡ true → InRange len n state mode
unfolding make_ok size_ok
in-range len n state mode e =
    let numbers_ok = (leb 1 state && leb state 4) && (leb 1 mode && leb mode 2) in
    let p = both (size_ok len n) numbers_ok e in
    let q = both (leb 1 n) (leb n 256 && eqb len (16 + n * 1312)) p.0 in
    let r = both (leb n 256) (eqb len (16 + n * 1312)) q.1 in
    let t = both (leb 1 state && leb state 4) (leb 1 mode && leb mode 2) p.1 in
    let s = both (leb 1 state) (leb state 4) t.0 in
    let m = both (leb 1 mode) (leb mode 2) t.1 in
    record {
      least = leb-true 1 n q.0;
      most = leb-true n 256 r.0;
      size = eqb-true len (16 + n * 1312) r.1;
      state = (leb-true 1 state s.0, leb-true state 4 s.1);
      mode = (leb-true 1 mode m.0, leb-true mode 2 m.1);
    }
