-- The parts of a whole frame whose form is right, and what its fields' judgement says of the frame's status.
use Prim.Native.Nat.{ℕ, ◌+◌, ◌-◌, ◌≤◌}
use mathlib.Core.Path.{◌≡◌, sym, ap, ◌∙◌}
use mathlib.Core.Bool.{Bool, true, false}
use mathlib.Core.List.{List}
use native.Mathlib.Omega.{arith}
use lib.ListN.{length, take, drop}
use Rattle.octets.specs.Parts.{part}
use Rattle.shape.specs.Shapes.{Shape, shape_of}
use Rattle.header.specs.declared.Header.{Header}
use Rattle.header.specs.declared.Layout.{Layout}
use Rattle.header.specs.Layout.{layout_of}
use Rattle.rules.specs.Rules.{field_rules_ok, form_status, field_status, status}
use Rattle.rules.proofs.RuleLaws.{judged-form, judged-other, keeps-form, form-lengths, form-stops}
use Rattle.request.specs.Reading.{frame_status, bytes_in, extras_span, key_span, value_span}
use Rattle.commands.specs.declared.Instruction.{Instruction}
use Rattle.decision.specs.Decide.{instruction_of}
use Rattle.std.specs.Prelude.{Option, Some, None}
use Rattle.decode.specs.Decode.{decoded_status, decoded_by, request_of, bare_value}
use Rattle.decode.proofs.DecodeLaws.{asked-breaks, asked-broken, asked-goes, asked-whole, asked-value}
use Rattle.serving.specs.Serve.{reaches_decision}

-- the parts follow each other and end within n bytes
pub record Within (l : Layout) (n : ℕ) : Type 0 where
  pub extras : l.extras ≤ l.key
  pub key : l.key ≤ l.value
  pub value : l.value ≤ l.end
  pub end : l.end ≤ n

pub within : (l : Layout) (sh : Shape) (h : Header) (n : ℕ) → l ≡ layout_of h → form_status sh h ≡ 0 → 24 + h.body ≤ n → Within l n
within l sh h n e f w =
    let i = form-lengths sh h f in
    rw e (record { extras = omega arith; key = omega arith; value = omega arith; end = w })

module _ (s : List ℕ) (h : Header) where
  -- the parts that the code cuts out by the frame's layout
  module _ (l : Layout) (e : l ≡ layout_of h) where
    pub extras-cut : take (l.key - l.extras) (drop l.extras s) ≡ bytes_in s (extras_span h)
    unfolding extras_span
    extras-cut = rw e (let n : 24 + h.extlen - 24 ≡ h.extlen = omega arith in ap (λ (n : ℕ). take n (drop 24 s)) n)

    pub key-cut : take (l.value - l.key) (drop l.key s) ≡ bytes_in s (key_span h)
    unfolding key_span
    key-cut =
        rw e (let n : 24 + h.extlen + h.keylen - (24 + h.extlen) ≡ h.keylen = omega arith in
        ap (λ (n : ℕ). take n (drop (24 + h.extlen) s)) n)

    pub value-cut : take (l.end - l.value) (drop l.value s) ≡ bytes_in s (value_span h)
    unfolding value_span
    value-cut =
        rw e (let n : 24 + h.body - (24 + h.extlen + h.keylen) ≡ h.body - (h.extlen + h.keylen) = omega arith in
        ap (λ (n : ℕ). take n (drop (24 + h.extlen + h.keylen) s)) n)

  module _ (whole : 24 + h.body ≤ length s) (formed : form_status (shape_of h.opcode) h ≡ 0) where
    inside : h.extlen + h.keylen ≤ h.body
    inside = form-lengths (shape_of h.opcode) h formed

    by-rules : reaches_decision s h ≡ field_rules_ok (shape_of h.opcode) (bytes_in s (extras_span h)) (bytes_in s (value_span h))
    by-rules = keeps-form (shape_of h.opcode) h formed (bytes_in s (extras_span h)) (bytes_in s (value_span h))

    by-fields : frame_status s h ≡ field_status (shape_of h.opcode) (bytes_in s (extras_span h)) (bytes_in s (value_span h))
    unfolding frame_status status
    by-fields = judged-form (shape_of h.opcode) h formed (bytes_in s (extras_span h)) (bytes_in s (value_span h))

    module _ (forcing : Bool) (sh : Shape) (ex va : List ℕ) (r : Option Instruction) (eh : sh ≡ shape_of h.opcode) (ee : ex ≡ bytes_in s (extras_span h)) (ev : va ≡ bytes_in s (value_span h))
        (er : r ≡ decoded_by forcing sh h ex va) where
      asked_is : decoded_by forcing (shape_of h.opcode) h (bytes_in s (extras_span h)) (bytes_in s (value_span h)) ≡ r
      asked_is = sym (er ∙ (λ i. decoded_by forcing (eh i) h (ee i) (ev i)))

      pub broken-status : r ≡ None → decoded_status None ≡ frame_status s h
      broken-status e = sym (by-fields ∙ asked-broken forcing h _ _ (asked_is ∙ e))

      pub broken-stops : r ≡ None → reaches_decision s h ≡ false
      broken-stops e = by-rules ∙ asked-breaks forcing h _ _ (asked_is ∙ e)

      module _ (a : Instruction) (e : r ≡ Some a) where
        pub whole-goes : reaches_decision s h ≡ true
        whole-goes = by-rules ∙ asked-goes forcing h _ _ a (asked_is ∙ e)

        pub whole-ask : a ≡ instruction_of (request_of forcing s h)
        whole-ask = asked-whole forcing s h whole inside a (asked_is ∙ e)

        pub whole-value : part va 0 a.size ≡ bare_value s h
        whole-value = ap (λ (v : List ℕ). part v 0 a.size) ev ∙ asked-value forcing s h whole inside a (asked_is ∙ e)

  module _ (z : form_status (shape_of h.opcode) h ≡ 0 → ⊥) where
    pub other-status : form_status (shape_of h.opcode) h ≡ frame_status s h
    unfolding frame_status status
    other-status = sym (judged-other (shape_of h.opcode) h (bytes_in s (extras_span h)) (bytes_in s (value_span h)) z)

    pub other-stops : reaches_decision s h ≡ false
    other-stops = form-stops (shape_of h.opcode) h (bytes_in s (extras_span h)) (bytes_in s (value_span h)) z
