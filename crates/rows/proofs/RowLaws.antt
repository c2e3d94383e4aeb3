-- A row's bytes and what they say, both ways; and that a row is sound just where it is good.
use native.Mathlib.Omega.{arith}
use native.Mathlib.Nat.{add_assoc}
use mathlib.Core.Logic.{◌⊎◌, inl, inr, ⊎_elim}
use mathlib.Core.Path.{◌≡◌, refl, sym, ap, ◌∙◌}
use mathlib.Core.Bool.{Bool, true, false, ◌&&◌, ◌||◌, cond}
use mathlib.Core.List.{List, ◌++◌}
use Rattle.std.specs.Prelude.{Some, None}
use Prim.Native.Nat.{ℕ, ◌+◌, ◌-◌, ◌^◌, ◌≤◌, ◌<◌}
use lib.ListN.{length, drop, replicate, length-append, length-drop, length-replicate}
use lib.Seq.{drop-drop, take_at, drop_at}
use lib.Dec.{eqb, leb}
use borrow.Author.Tests.{leb-true, eqb-true, le-leb, eq-eqb}
use Rattle.octets.specs.Parts.{Bytes, part}
use Rattle.octets.specs.BigEndian.{be, be_from, bytes_of}
use Rattle.octets.specs.Compare.{zeros}
use Rattle.octets.proofs.Choices.{cases, both, either}
use Rattle.octets.proofs.Lists.{part_length, glue, glue-rest}
use Rattle.octets.proofs.Numbers.{be-bytes, num-back, num-below}
use Rattle.octets.proofs.Tests.{zeros-true, zeros-replicate}
use Rattle.document.specs.Documents.{Entry}
use Rattle.rows.specs.declared.Slot.{Slot}
use Rattle.rows.specs.Row.{Row, slot_of, size_bytes, short_bytes, long_bytes, slot_bytes, kind_of, doc_of, key_of, row_of, slot_for, used_bytes, row_bytes}
use Rattle.rows.specs.RowRules.{kind_ok, used_ok, row_sound}
use Rattle.rows.specs.Good.{EntryGood}

abbrev pub RowGood : ℕ → Row → Type 0
RowGood mark None = Unit {0}
RowGood mark (Some e) = EntryGood mark e

kind-below : (t : Bool) → kind_of t < 256 ^ 2
kind-below true = omega arith
kind-below false = omega arith

kind-used : (t : Bool) → eqb (kind_of t) 0 ≡ false
kind-used true = refl
kind-used false = refl

kind-tomb : (t : Bool) → eqb (kind_of t) 2 ≡ t
kind-tomb true = refl
kind-tomb false = refl

-- what a used row's bytes have at and after its key
module _ (e : Entry) where
  abbrev left : ℕ
  left = 1280 - (length e.key + length e.doc.value)

  abbrev zeroed : List ℕ
  zeroed = replicate left 0

  tail-read : drop 32 (used_bytes e) ≡ e.key ++ (e.doc.value ++ zeroed)
  unfolding used_bytes slot_bytes size_bytes short_bytes long_bytes bytes_of
  tail-read = refl

  pub key-read : part (used_bytes e) 32 (length e.key) ≡ e.key
  key-read = rw tail-read (take_at e.key (e.doc.value ++ zeroed) (length e.key) refl)

  after-key : drop (32 + length e.key) (used_bytes e) ≡ e.doc.value ++ zeroed
  after-key = rw (← drop-drop (length e.key) 32 (used_bytes e), tail-read) (drop_at e.key (e.doc.value ++ zeroed) (length e.key) refl)

  pub value_read : part (used_bytes e) (32 + length e.key) (length e.doc.value) ≡ e.doc.value
  value_read = rw after-key (take_at e.doc.value zeroed (length e.doc.value) refl)

  pub after-value : drop (32 + (length e.key + length e.doc.value)) (used_bytes e) ≡ zeroed
  after-value =
      rw (← add_assoc 32 (length e.key) (length e.doc.value), ← drop-drop (length e.doc.value) (32 + length e.key) (used_bytes e), after-key)
      (drop_at e.doc.value zeroed (length e.doc.value) refl)

kind_ok-tomb : (t : Bool) (v f x : ℕ) → (t ≡ true → (v ≡ 0) × (f ≡ 0) × (x ≡ 0))
    → (eqb (kind_of t) 1 || (eqb (kind_of t) 2 && (eqb v 0 && (eqb f 0 && eqb x 0)))) ≡ true
kind_ok-tomb true v f x h = let z = h refl in rw (eq-eqb v 0 z.0, eq-eqb f 0 z.1, eq-eqb x 0 z.2)
kind_ok-tomb false v f x h = refl

-- a row is read back from its bytes
module _ (mark : ℕ) (e : Entry) (g : EntryGood mark e) where
  used-length : length (used_bytes e) ≡ 1312
  unfolding used_bytes slot_bytes size_bytes short_bytes long_bytes bytes_of
  used-length = simp (length-append, length-replicate) (omega (arith, g.key-most, g.value-most))

  module _ (small : mark < 2 ^ 64) where
    pub slot_read : slot_of (used_bytes e) ≡ slot_for e
    unfolding slot_of slot_for used_bytes slot_bytes size_bytes short_bytes long_bytes bytes_of
    slot_read = λ i. record {
      kind = be-bytes 2 (kind_of e.doc.tomb) (kind-below e.doc.tomb) i;
      keylen = be-bytes 2 (length e.key) (omega (arith, g.key-most)) i;
      vallen = be-bytes 4 (length e.doc.value) (omega (arith, g.value-most)) i;
      numbers = record {
        flags = be-bytes 4 e.doc.numbers.flags g.flags i;
        expiry = be-bytes 4 e.doc.numbers.expiry g.expiry i;
        revision = record { 0 = be-bytes 8 e.doc.numbers.revision.0 g.revision i };
        cas = record { 0 = be-bytes 8 e.doc.numbers.cas.0 (omega (arith, g.cas-most)) i };
      };
    }

    used-read : row_of (used_bytes e) ≡ Some e
    unfolding row_of doc_of key_of slot_for
    used-read =
        let r = used_bytes e in
        let s = slot_read in
        (λ i. cond (eqb (s i).kind 0) None (Some (record {
          key = part r 32 (s i).keylen;
          doc = record { tomb = eqb (s i).kind 2; value = part r (32 + (s i).keylen) (s i).vallen; numbers = (s i).numbers };
        })))
        ∙ (λ i. cond (kind-used e.doc.tomb i) None (Some (record {
          key = key-read e i;
          doc = record { tomb = kind-tomb e.doc.tomb i; value = value_read e i; numbers = e.doc.numbers };
        })))

    used-ok : used_ok mark (slot_for e) ≡ true
    unfolding used_ok slot_for
    used-ok = λ i.
        kind_ok-tomb e.doc.tomb (length e.doc.value) e.doc.numbers.flags e.doc.numbers.expiry (λ t. (ap length (g.bare t).0, (g.bare t).1, (g.bare t).2)) i
        && (le-leb 1 (length e.key) g.key-least i
        && (le-leb (length e.key) 250 g.key-most i
        && (le-leb (length e.doc.value) 1024 g.value-most i
        && (le-leb 1 e.doc.numbers.cas.0 g.cas-least i
        && le-leb e.doc.numbers.cas.0 mark g.cas-most i))))

    used_sound : row_sound mark (used_bytes e) ≡ true
    unfolding row_sound slot_for
    used_sound =
        let r = used_bytes e in
        let s = slot_read in
        (λ i. cond (eqb (s i).kind 0) (zeros r) (used_ok mark (s i) && zeros (drop (32 + ((s i).keylen + (s i).vallen)) r)))
        ∙ (λ i. cond (kind-used e.doc.tomb i) (zeros r) (used-ok i && (ap zeros (after-value e) ∙ zeros-replicate (left e)) i))

module _ (mark : ℕ) where
  pub row-length : (w : Row) → RowGood mark w → length (row_bytes w) ≡ 1312
  unfolding row_bytes
  row-length None g = length-replicate {A = ℕ} 1312 0
  row-length (Some e) g = used-length mark e g

  pub row_read : (w : Row) → RowGood mark w → mark < 2 ^ 64 → row_of (row_bytes w) ≡ w
  unfolding row_bytes row_of slot_of be be_from
  row_read None g m = refl
  row_read (Some e) g m = used-read mark e g m

  pub row-sound : (w : Row) → RowGood mark w → mark < 2 ^ 64 → row_sound mark (row_bytes w) ≡ true
  unfolding row_bytes row_sound slot_of be be_from
  row-sound None g m = zeros-replicate 1312
  row-sound (Some e) g m = used_sound mark e g m

-- a used row's rules
pub record Used (mark : ℕ) (s : Slot) : Type 0 where
  pub kind : (s.kind ≡ 1) ⊎ ((s.kind ≡ 2) × (s.vallen ≡ 0) × (s.numbers.flags ≡ 0) × (s.numbers.expiry ≡ 0))
  pub key-least : 1 ≤ s.keylen
  pub key-most : s.keylen ≤ 250
  pub value-most : s.vallen ≤ 1024
  pub cas-least : 1 ≤ s.numbers.cas.0
  pub cas-most : s.numbers.cas.0 ≤ mark

module _ (mark : ℕ) (s : Slot) where
  abbrev bare_ok : Bool
  bare_ok = eqb s.vallen 0 && (eqb s.numbers.flags 0 && eqb s.numbers.expiry 0)

  abbrev cas_ok : Bool
  cas_ok = leb 1 s.numbers.cas.0 && leb s.numbers.cas.0 mark

  pub used-parts : used_ok mark s ≡ true → Used mark s
  unfolding used_ok
  used-parts e =
      let a = both (kind_ok s) (leb 1 s.keylen && (leb s.keylen 250 && (leb s.vallen 1024 && cas_ok))) e in
      let b = both (leb 1 s.keylen) (leb s.keylen 250 && (leb s.vallen 1024 && cas_ok)) a.1 in
      let c = both (leb s.keylen 250) (leb s.vallen 1024 && cas_ok) b.1 in
      let d = both (leb s.vallen 1024) cas_ok c.1 in
      let f = both (leb 1 s.numbers.cas.0) (leb s.numbers.cas.0 mark) d.1 in
      record {
        kind = ⊎_elim
            (λ k. inl (eqb-true s.kind 1 k))
            (λ k.
            let p = both (eqb s.kind 2) bare_ok k in
            let q = both (eqb s.vallen 0) (eqb s.numbers.flags 0 && eqb s.numbers.expiry 0) p.1 in
            let t = both (eqb s.numbers.flags 0) (eqb s.numbers.expiry 0) q.1 in
            inr (eqb-true s.kind 2 p.0, eqb-true s.vallen 0 q.0, eqb-true s.numbers.flags 0 t.0, eqb-true s.numbers.expiry 0 t.1))
            (either (eqb s.kind 1) (eqb s.kind 2 && bare_ok) a.0);
        key-least = leb-true 1 s.keylen b.0;
        key-most = leb-true s.keylen 250 c.0;
        value-most = leb-true s.vallen 1024 d.0;
        cas-least = leb-true 1 s.numbers.cas.0 f.0;
        cas-most = leb-true s.numbers.cas.0 mark f.1;
      }

  kind-back : Used mark s → kind_of (eqb s.kind 2) ≡ s.kind
  kind-back u = ⊎_elim (λ k. rw k) (λ k. rw k.0) u.kind

  bare-back : Used mark s → eqb s.kind 2 ≡ true → (s.vallen ≡ 0) × (s.numbers.flags ≡ 0) × (s.numbers.expiry ≡ 0)
  bare-back u t = ⊎_elim (λ k. absurd (omega (arith, eqb-true s.kind 2 t))) (λ k. (k.1, k.2, k.3)) u.kind

-- a sound row's bytes are the bytes of what they say
module _ (mark : ℕ) (r : List ℕ) (b : Bytes r) (l : length r ≡ 1312) where
  size_back : size_bytes (slot_of r) ≡ part r 0 8
  unfolding size_bytes slot_of
  size_back =
      (λ i. num-back r 0 2 b (omega arith) i ++ (num-back r 2 2 b (omega arith) i ++ num-back r 4 4 b (omega arith) i))
      ∙ ap (λ (t : List ℕ). part r 0 2 ++ t) (glue r 2 2 4)
      ∙ glue r 0 2 6

  short_back : short_bytes (slot_of r) ≡ part r 8 8
  unfolding short_bytes slot_of
  short_back = (λ i. num-back r 8 4 b (omega arith) i ++ num-back r 12 4 b (omega arith) i) ∙ glue r 8 4 4

  long-back : long_bytes (slot_of r) ≡ part r 16 16
  unfolding long_bytes slot_of
  long-back = (λ i. num-back r 16 8 b (omega arith) i ++ num-back r 24 8 b (omega arith) i) ∙ glue r 16 8 8

  slot-back : slot_bytes (slot_of r) ≡ part r 0 32
  unfolding slot_bytes
  slot-back =
      (λ i. size_back i ++ (short_back i ++ long-back i))
      ∙ ap (λ (t : List ℕ). part r 0 8 ++ t) (glue r 8 8 16)
      ∙ glue r 0 8 24

  module _ (u : Used mark (slot_of r)) where
    abbrev said : Entry
    said = record { key = key_of r; doc = doc_of r }

    key-length : length (key_of r) ≡ (slot_of r).keylen
    unfolding key_of
    key-length = part_length r 32 (slot_of r).keylen (omega (arith, u.key-most))

    value-length : length (doc_of r).value ≡ (slot_of r).vallen
    unfolding doc_of
    value-length = part_length r (32 + (slot_of r).keylen) (slot_of r).vallen (omega (arith, u.key-most, u.value-most))

    slot_same : slot_for said ≡ slot_of r
    unfolding slot_for doc_of
    slot_same = λ i. record { kind = kind-back mark (slot_of r) u i; keylen = key-length i; vallen = value-length i; numbers = (slot_of r).numbers }

    tail-back : zeros (drop (32 + ((slot_of r).keylen + (slot_of r).vallen)) r) ≡ true → key_of r ++ ((doc_of r).value ++ zeroed said) ≡ drop 32 r
    unfolding key_of doc_of
    tail-back z =
        let k = (slot_of r).keylen in
        let v = (slot_of r).vallen in
        let n : length (drop (32 + (k + v)) r) ≡ 1280 - (k + v) = simp length-drop (omega (arith, u.key-most, u.value-most)) in
        let t : replicate (1280 - (k + v)) 0 ≡ drop (32 + k + v) r = rw add_assoc (rw n at (sym (zeros-true (drop (32 + (k + v)) r) z))) in
        rw (key-length, value-length, t, glue-rest r (32 + k) v) (glue-rest r 32 k)

    used-back : zeros (drop (32 + ((slot_of r).keylen + (slot_of r).vallen)) r) ≡ true → used_bytes said ≡ r
    unfolding used_bytes
    used-back z = (λ i. (ap slot_bytes slot_same ∙ slot-back) i ++ tail-back z i) ∙ glue-rest r 0 32

    said-good : EntryGood mark said
    unfolding doc_of slot_of
    said-good = record {
      key-least = rw key-length u.key-least;
      key-most = rw key-length u.key-most;
      value-most = rw value-length u.value-most;
      bare = λ t. let z = bare-back mark (slot_of r) u t in (rw z.0, z.1, z.2);
      flags = num-below r 8 4 b;
      expiry = num-below r 12 4 b;
      revision = num-below r 16 8 b;
      cas-least = u.cas-least;
      cas-most = u.cas-most;
    }

  pub row_back : row_sound mark r ≡ true → (row_bytes (row_of r) ≡ r) × RowGood mark (row_of r)
  unfolding row_sound row_of row_bytes
  row_back e = cases (eqb (slot_of r).kind 0)
      (λ k.
      let z : zeros r ≡ true = rw k at e in
      rw k (sym (rw l at (zeros-true r z)), tt))
      (λ k.
      let q = both (used_ok mark (slot_of r)) (zeros (drop (32 + ((slot_of r).keylen + (slot_of r).vallen)) r)) (rw k at e) in
      let u = used-parts mark (slot_of r) q.0 in
      rw k (used-back u q.1, said-good u))
