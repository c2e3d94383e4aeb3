-- The frame of a request's fields and parts, and what reading finds in it, whatever follows.
use Prim.Native.Nat.{ℕ, ◌+◌, ◌^◌, ◌≤◌, ◌<◌}
use mathlib.Core.Path.{◌≡◌, sym, ap, ◌∙◌}
use mathlib.Core.List.{List, ◌++◌, append_assoc}
use mathlib.Core.Bool.{true, ◌&&◌, cond}
use native.Mathlib.Omega.{arith}
use native.Mathlib.Nat.{add-sub_cancel_left}
use lib.ListN.{length, take, drop, length-append}
use lib.Seq.{drop-drop, take-append_seam, drop-append_seam}
use lib.Dec.{ltb, eqb}
use borrow.Author.Tests.{le-ltb, lt-ltb, ltb-true}
use Rattle.octets.proofs.Choices.{both}
use Rattle.header.specs.declared.Header.{Header}
use Rattle.header.specs.Header.{header_of, header_bytes, HeaderFits as HeaderFits}
use Rattle.header.proofs.HeaderLaws.{length-header, after-header, header-back}
use Rattle.rules.specs.Rules.{status}
use Rattle.request.specs.declared.Fields.{Fields}
use Rattle.request.specs.Reading.{Stop, Whole, Outcome, Status, Accepted, gate_of, extras_span, key_span, value_span, bytes_in, frame_of, frame_status, whole_reading, reading}
use Rattle.request_writer.specs.Writing.{header_for, frame_bytes, lengths_held, FieldsFit}

-- a header that holds these lengths holds the whole request
pub header-fits : (f : Fields) (e k v : ℕ) → FieldsFit f → lengths_held e k v ≡ true → HeaderFits (header_for f e k v)
unfolding header_for lengths_held
header-fits f e k v p w =
    let a = both (ltb e 256) (ltb k 65536 && ltb (e + k + v) (2 ^ 32)) w in
    let b = both (ltb k 65536) (ltb (e + k + v) (2 ^ 32)) a.1 in
    record {
      magic = omega arith;
      opcode = p.opcode;
      keylen = ltb-true k 65536 b.0;
      extlen = ltb-true e 256 a.0;
      datatype = p.datatype;
      vbucket = p.vbucket;
      body = ltb-true (e + k + v) (2 ^ 32) b.1;
      opaque = p.opaque;
      cas = p.cas;
    }

module _ (f : Fields) (extras key value rest : List ℕ) where
  unfoldable pub h : Header
  h = header_for f (length extras) (length key) (length value)

  unfoldable pub frame : List ℕ
  frame = frame_bytes f extras key value ++ rest

  pieces : frame ≡ header_bytes h ++ (extras ++ (key ++ (value ++ rest)))
  unfolding frame h frame_bytes
  pieces = simp append_assoc

  pub length-frame : length frame ≡ 24 + (length extras + (length key + (length value + length rest)))
  length-frame = rw pieces (simp (length-append, length-header))

  after : drop 24 frame ≡ extras ++ (key ++ (value ++ rest))
  after = rw pieces (after-header h (extras ++ (key ++ (value ++ rest))))

  after-extras : drop (24 + length extras) frame ≡ key ++ (value ++ rest)
  after-extras = sym (drop-drop (length extras) 24 frame) ∙ ap (drop (length extras)) after ∙ drop-append_seam extras (key ++ (value ++ rest))

  after-key : drop (24 + length extras + length key) frame ≡ value ++ rest
  after-key = sym (drop-drop (length key) (24 + length extras) frame) ∙ ap (drop (length key)) after-extras ∙ drop-append_seam key (value ++ rest)

  pub extras-back : bytes_in frame (extras_span h) ≡ extras
  unfolding extras_span h header_for
  extras-back = ap (take (length extras)) after ∙ take-append_seam extras (key ++ (value ++ rest))

  pub key_back : bytes_in frame (key_span h) ≡ key
  unfolding key_span h header_for
  key_back = ap (take (length key)) after-extras ∙ take-append_seam key (value ++ rest)

  pub value-back : bytes_in frame (value_span h) ≡ value
  unfolding value_span h header_for
  value-back =
      rw (add-sub_cancel_left (length extras + length key) (length value)) (ap (take (length value)) after-key ∙ take-append_seam value rest)

  frame-status : frame_status frame h ≡ status h extras value
  unfolding frame_status
  frame-status = rw (extras-back, value-back)

  unfoldable pub body : ℕ
  body = length extras + length key + length value

  module _ (p : FieldsFit f) (w : lengths_held (length extras) (length key) (length value) ≡ true) where
    header_is : header_of frame ≡ h
    unfolding h
    header_is = ap header_of pieces ∙ header-back h (extras ++ (key ++ (value ++ rest))) (header-fits f (length extras) (length key) (length value) p w)

    gate-is : gate_of frame ≡ cond (ltb 1400 body) (Stop 3 0) (Whole h)
    unfolding gate_of body h header_for
    gate-is =
        simp (
          le-ltb (length frame) 24 (omega (arith, length-frame)),
          header_is,
          le-ltb (length frame) (24 + (length extras + length key + length value)) (omega (arith, length-frame)),
        )

    pub reading-long : 1400 < body → reading frame ≡ Outcome 3
    unfolding reading
    reading-long l = rw (gate-is, lt-ltb 1400 body l)

    pub reading-frame : body ≤ 1400 → reading frame ≡ cond (eqb (status h extras value) 0) (Accepted (frame_of frame h)) (Status (status h extras value))
    unfolding reading whole_reading
    reading-frame l = rw (gate-is, le-ltb 1400 body l, frame-status)
