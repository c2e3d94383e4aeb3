-- The claims of specs/Claims.antt: what was written reads back, what was read is written again, and what is not written is not read.
use Prim.Native.Nat.{ℕ, ◌+◌, ◌-◌, ◌^◌, ◌≤◌}
use mathlib.Core.Path.{◌≡◌, refl, sym, ap, ap₂, ◌∙◌}
use mathlib.Core.List.{List, [], ◌++◌}
use mathlib.Core.Bool.{true, false, not, cond}
use native.Mathlib.Omega.{arith}
use lib.ListN.{length, take, drop}
use lib.Dec.{ltb, eqb}
use borrow.Author.Tests.{ltb-false, ltb-true, eqb-true, lt-ltb, not-false, not-true}
use Rattle.octets.specs.Parts.{Bytes, part, pasted, written}
use Rattle.octets.proofs.Choices.{cases, cond-elim}
use Rattle.octets.proofs.Lists.{written-fits, part_length, glue}
use Rattle.octets.proofs.Numbers.{num-below}
use Rattle.header.specs.declared.Header.{Header}
use Rattle.header.specs.Header.{header_of, header_bytes}
use Rattle.header.proofs.HeaderLaws.{header-again}
use Rattle.rules.specs.Rules.{status}
use Rattle.rules.proofs.RuleLaws.{parts-inside}
use Rattle.request.specs.declared.Fields.{Fields}
use Rattle.request.specs.declared.Frame.{Frame}
use Rattle.request.specs.Reading.{Gate, Stop, Whole, Accepted, gate_of, gated, extras_span, key_span, value_span, bytes_in, fields_of, frame_of, frame_status, whole_reading, reading}
use Rattle.request_writer.specs.Writing.{Refused, Wrote, header_for, frame_bytes, lengths_held, refuses, writing, FieldsFit}
use Rattle.request_writer.specs.Claims.{Reads, WrittenReads, Writes, ReadWrites, RefusedReads, HeaderHolds}
use Rattle.request.proofs.Gated.{WholeFrame, whole-frame}
use Rattle.request_writer.proofs.Frames.{h, frame, body, extras-back, key_back, value-back, reading-long, reading-frame}
use Rattle.request_writer.proofs.WriterLaws.{alone, wrote}

-- what a written frame has shown: a header holds its lengths, reading does not refuse it, and it fits
pub record WasWritten (f : Fields) (extras key value : List ℕ) (room n : ℕ) : Type 0 where
  pub is_held : lengths_held (length extras) (length key) (length value) ≡ true
  pub read : refuses (reading (frame_bytes f extras key value)) ≡ false
  pub fits : length (frame_bytes f extras key value) ≤ room
  pub size : length (frame_bytes f extras key value) ≡ n

was-written : (f : Fields) (extras key value : List ℕ) (room n : ℕ) → writing f extras key value room ≡ Wrote n → WasWritten f extras key value room n
unfolding writing
was-written f extras key value room n e =
    cond-elim (not (lengths_held (length extras) (length key) (length value))) _ _ _ e (λ t z. absurd (let y : ◌≡◌ {A = ℕ} 0 1 = cc in omega arith))
    (λ t e₁. cond-elim (refuses (reading (frame_bytes f extras key value))) _ _ _ e₁ (λ u z. absurd (let y : ◌≡◌ {A = ℕ} 0 1 = cc in omega arith))
    (λ u e₂. cond-elim (ltb room (length (frame_bytes f extras key value))) _ _ _ e₂ (λ v z. absurd (let y : ◌≡◌ {A = ℕ} 0 1 = cc in omega arith))
    (λ v z. record { is_held = not-false _ t; read = u; fits = ltb-false _ _ v; size = cc })))

module _ (f : Fields) (extras key value : List ℕ) (p : FieldsFit f) (w : lengths_held (length extras) (length key) (length value) ≡ true) where
  rules : ℕ
  rules = status (header_for f (length extras) (length key) (length value)) extras value

  -- whether reading refuses a frame does not depend on what follows it
  refuses-by : (rest : List ℕ) → refuses (reading (frame f extras key value rest))
      ≡ cond (ltb 1400 (length extras + length key + length value)) true (cond (eqb rules 0) false true)
  unfolding rules h body
  refuses-by rest =
      cases (ltb 1400 (length extras + length key + length value))
      (λ t. rw (t, reading-long f extras key value rest p w (ltb-true _ _ t)))
      (λ t. rw (t, reading-frame f extras key value rest p w (ltb-false _ _ t)) (cases (eqb rules 0) (λ u. rw u) (λ u. rw (u, u))))

  refuses-alike : (rest : List ℕ) → refuses (reading (frame_bytes f extras key value)) ≡ refuses (reading (frame f extras key value rest))
  refuses-alike rest = sym (ap (λ (s : List ℕ). refuses (reading s)) (alone f extras key value 0)) ∙ refuses-by [] ∙ sym (refuses-by rest)

  module _ (a : refuses (reading (frame_bytes f extras key value)) ≡ false) where
    short : length extras + length key + length value ≤ 1400
    short = cond-elim (ltb 1400 (length extras + length key + length value)) _ _ _ (sym (refuses-by []) ∙ sym (refuses-alike []) ∙ a)
        (λ t z. absurd (let y : ◌≡◌ {A = ℕ} 0 1 = cc in omega arith)) (λ t z. ltb-false _ _ t)

    ruled : eqb rules 0 ≡ true
    ruled = cond-elim (ltb 1400 (length extras + length key + length value)) _ _ _ (sym (refuses-by []) ∙ sym (refuses-alike []) ∙ a)
        (λ t z. absurd (let y : ◌≡◌ {A = ℕ} 0 1 = cc in omega arith))
        (λ t z. cond-elim (eqb rules 0) _ _ _ z (λ u y. u) (λ u y. absurd (let x : ◌≡◌ {A = ℕ} 0 1 = cc in omega arith)))

    accepts : (rest : List ℕ) → reading (frame f extras key value rest) ≡ Accepted (frame_of (frame f extras key value rest) (h f extras key value rest))
    unfolding rules h body
    accepts rest = reading-frame f extras key value rest p w short ∙ rw ruled

    reads-back : (rest : List ℕ) → Reads (frame f extras key value rest) f extras key value
    reads-back rest = record {
      frame = frame_of (frame f extras key value rest) (h f extras key value rest);
      accepted = accepts rest;
      same-fields = unfold frame_of fields_of h header_for in refl;
      same-extras = unfold frame_of in extras-back f extras key value rest;
      same_key = unfold frame_of in key_back f extras key value rest;
      same-value = unfold frame_of in value-back f extras key value rest;
    }

pub written-reads : WrittenReads
written-reads f extras key value out n p e =
    let d = was-written f extras key value (length out) n e in
    let q : written out 0 (frame_bytes f extras key value) ≡ frame f extras key value (drop (0 + length (frame_bytes f extras key value)) out) =
    written-fits out 0 (frame_bytes f extras key value) (omega (arith, d.fits)) ∙ (unfold pasted frame in refl) in
    rw q (reads-back f extras key value p d.is_held d.read (drop (0 + length (frame_bytes f extras key value)) out))

refused : (f : Fields) (extras key value : List ℕ) (room : ℕ) → lengths_held (length extras) (length key) (length value) ≡ true
    → writing f extras key value room ≡ Refused → refuses (reading (frame_bytes f extras key value)) ≡ true
unfolding writing
refused f extras key value room w e =
    cond-elim (not (lengths_held (length extras) (length key) (length value))) _ _ _ e (λ t z. absurd (let b : false ≡ true = sym (not-true _ t) ∙ w in let y : ◌≡◌ {A = ℕ} 0 1 = cc in omega arith))
    (λ t e₁. cond-elim (refuses (reading (frame_bytes f extras key value))) _ _ _ e₁ (λ u z. u)
    (λ u e₂. cond-elim (ltb room (length (frame_bytes f extras key value))) _ _ _ e₂ (λ v z. absurd (let y : ◌≡◌ {A = ℕ} 0 1 = cc in omega arith))
    (λ v z. absurd (let y : ◌≡◌ {A = ℕ} 0 1 = cc in omega arith))))

pub refused-reads : RefusedReads
unfolding frame
refused-reads f extras key value rest room p w e = sym (refuses-alike f extras key value p w rest) ∙ refused f extras key value room w e

pub header-holds : HeaderHolds
unfolding lengths_held
header-holds x p v e = rw (lt-ltb x.extlen 256 p.extlen, lt-ltb x.keylen 65536 p.keylen, lt-ltb (x.extlen + x.keylen + v) (2 ^ 32) (omega (arith, e, p.body)))

-- what an accepted frame has shown of the bytes
pub record WasRead (s : List ℕ) (g : Frame) (h : Header) : Type 0 where
  pub frame : WholeFrame s h
  pub good : frame_status s h ≡ 0
  pub shown : g ≡ frame_of s h

was-whole : (s : List ℕ) (g : Frame) (h : Header) → whole_reading s h ≡ Accepted g → (frame_status s h ≡ 0) × (g ≡ frame_of s h)
unfolding whole_reading
was-whole s g h e =
    cond-elim (eqb (frame_status s h) 0) _ _ _ e (λ t z. (eqb-true _ _ t, cc)) (λ t z. absurd (let y : ◌≡◌ {A = ℕ} 0 1 = cc in omega arith))

was-gated : (s : List ℕ) (g : Frame) (w : Gate) → gate_of s ≡ w → gated s w ≡ Accepted g → WasRead s g (header_of s)
was-gated s g (Stop n need) q e = absurd (let y : ◌≡◌ {A = ℕ} 0 1 = cc in omega arith)
was-gated s g (Whole h) q e =
    let f = whole-frame s h q in
    let d = was-whole s g h e in
    rw f.header (record { frame = f; good = d.0; shown = d.1 })

was_read : (s : List ℕ) (g : Frame) → reading s ≡ Accepted g → WasRead s g (header_of s)
unfolding reading
was_read s g e = was-gated s g (gate_of s) refl e

module _ (s : List ℕ) (g : Frame) (b : Bytes s) (d : WasRead s g (header_of s)) where
  k : Header
  k = header_of s

  sent-extras : List ℕ
  sent-extras = bytes_in s (extras_span k)

  sent-key : List ℕ
  sent-key = bytes_in s (key_span k)

  sent-value : List ℕ
  sent-value = bytes_in s (value_span k)

  inside : k.extlen + k.keylen ≤ k.body
  unfolding k frame_status
  inside = parts-inside (header_of s) _ _ d.good

  whole : 24 + k.body ≤ length s
  unfolding k
  whole = d.frame.inside

  limit : k.body ≤ 1400
  unfolding k
  limit = d.frame.limit

  length-extras : length sent-extras ≡ k.extlen
  unfolding sent-extras extras_span
  length-extras = part_length s 24 k.extlen (omega (arith, inside, whole))

  length-key : length sent-key ≡ k.keylen
  unfolding sent-key key_span
  length-key = part_length s (24 + k.extlen) k.keylen (omega (arith, inside, whole))

  length-value : length sent-value ≡ k.body - (k.extlen + k.keylen)
  unfolding sent-value value_span
  length-value = part_length s (24 + k.extlen + k.keylen) (k.body - (k.extlen + k.keylen)) (omega (arith, inside, whole))

  size : length sent-extras + length sent-key + length sent-value ≡ k.body
  size = omega (arith, length-extras, length-key, length-value, inside)

  same-header : header_for (fields_of k) (length sent-extras) (length sent-key) (length sent-value) ≡ k
  unfolding header_for fields_of k
  same-header =
      λ i. record {
        magic = sym d.frame.magic i;
        opcode = (header_of s).opcode;
        keylen = length-key i;
        extlen = length-extras i;
        datatype = (header_of s).datatype;
        vbucket = (header_of s).vbucket;
        body = size i;
        opaque = (header_of s).opaque;
        cas = (header_of s).cas;
      }

  fields_fit : FieldsFit (fields_of k)
  unfolding fields_of k header_of
  fields_fit = record { opcode = num-below s 1 1 b; datatype = num-below s 5 1 b; vbucket = num-below s 6 2 b; opaque = num-below s 12 4 b; cas = num-below s 16 8 b }

  narrow : k.extlen ≤ 255
  unfolding k header_of
  narrow = omega (arith, num-below s 4 1 b)

  same_bytes : frame_bytes (fields_of k) sent-extras sent-key sent-value ≡ take (24 + k.body) s
  unfolding frame_bytes sent-extras sent-key sent-value extras_span key_span value_span k
  same_bytes =
      let e = k.extlen in
      let n = k.keylen in
      let v = k.body - (k.extlen + k.keylen) in
      let z : 24 + (e + (n + v)) ≡ 24 + k.body = omega (arith, inside) in
      ap₂ ◌++◌ (ap header_bytes same-header ∙ header-again s d.frame.long b) (ap (λ (l : List ℕ). part s 24 e ++ l) (glue s (24 + e) n v) ∙ glue s 24 e (n + v))
      ∙ glue s 0 24 (e + (n + v)) ∙ ap (λ (m : ℕ). take m s) z

  ruled-parts : status (header_for (fields_of k) (length sent-extras) (length sent-key) (length sent-value)) sent-extras sent-value ≡ 0
  unfolding sent-extras sent-value frame_status k
  ruled-parts = ap (λ (h : Header). status h (bytes_in s (extras_span (header_of s))) (bytes_in s (value_span (header_of s)))) same-header ∙ d.good

  accepted-again : (room : ℕ) → 24 + k.body ≤ room → writing (fields_of k) sent-extras sent-key sent-value room ≡ Wrote (24 + k.body)
  accepted-again room r =
      wrote (fields_of k) sent-extras sent-key sent-value room fields_fit (omega (arith, length-extras, narrow)) (omega (arith, size, limit)) ruled-parts (omega (arith, size))
      ∙ ap (λ (m : ℕ). Wrote (24 + m)) size

  writes-back : Writes s (frame_of s k) (24 + k.body)
  unfolding frame_of sent-extras sent-key sent-value
  writes-back = record { there = whole; same_bytes = same_bytes; accepted = accepted-again }

  ends_at : (frame_of s k).value.at + (frame_of s k).value.len ≡ 24 + k.body
  unfolding frame_of value_span
  ends_at = omega (arith, inside)

  pub writes-frame : Writes s g (g.value.at + g.value.len)
  unfolding k
  writes-frame = rw (d.shown, ends_at) writes-back

pub read-writes : ReadWrites
read-writes s g b e = writes-frame s g b (was_read s g e)
