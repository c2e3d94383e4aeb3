-- The reply to a whole frame: a bare header where the reader refuses it, and never over 1,302 bytes.
use Prim.Native.Nat.{ℕ, ◌+◌, ◌≤◌}
use mathlib.Core.Path.{◌≡◌, ap, ◌∙◌}
use mathlib.Core.Bool.{true, false}
use mathlib.Core.List.{List, [], append-nil}
use native.Mathlib.Omega.{arith}
use lib.ListN.{length, length-append}
use Rattle.octets.specs.Parts.{Bytes}
use Rattle.octets.proofs.Choices.{cases}
use Rattle.octets.proofs.Lists.{part-most}
use Rattle.header.specs.declared.Header.{Header}
use Rattle.header.specs.Header.{header_bytes}
use Rattle.header.proofs.HeaderLaws.{length-header}
use Rattle.rules.proofs.RuleLaws.{key-most}
use Rattle.request.specs.Reading.{frame_status, bytes_in, extras_span, key_span, value_span}
use Rattle.document.specs.declared.Head.{Head}
use Rattle.document.specs.Head.{at_clock}
use Rattle.decision.specs.Decision.{Decision}
use Rattle.rows.specs.Table.{head_of, table_of, clock_at}
use Rattle.plain.specs.Damage.{sound}
use Rattle.plain.proofs.TableLaws.{sound-good}
use Rattle.serving.specs.Reply.{body_of, reply_header, reply_bytes}
use Rattle.engine.specs.declared.Config.{Config}
use Rattle.shape.specs.Shapes.{shape_of}
use Rattle.serving.specs.Serve.{reaches_decision, refusal, decision_on, decision_at, frame_reply}
use Rattle.reply.specs.Fitting.{bare_header}
use Rattle.reply.proofs.Replies.{shown-body-most}

-- ---- a frame whose status the reader gives
pub bare-reply : (op opaque : ℕ) (hd : Head) (st : ℕ) → reply_bytes op opaque (refusal hd st) [] [] ≡ header_bytes (bare_header op opaque st)
unfolding reply_bytes reply_header
bare-reply op opaque hd st = append-nil (header_bytes (bare_header op opaque st))

refusal-length : (op opaque : ℕ) (hd : Head) (st : ℕ) → length (reply_bytes op opaque (refusal hd st) [] []) ≡ 24
refusal-length op opaque hd st = ap length (bare-reply op opaque hd st) ∙ length-header _

module _ (config : Config) (b s : List ℕ) (clock : ℕ) (h : Header) (g : reaches_decision s h ≡ false) where
  pub refused-is : decision_at config b clock s h ≡ refusal (at_clock (head_of b) clock) (frame_status s h)
  unfolding decision_on table_of
  refused-is = rw g

  pub refused-reply : reply_bytes h.opcode h.opaque (refusal (at_clock (head_of b) clock) (frame_status s h)) [] [] ≡ frame_reply config b clock s h
  unfolding frame_reply reply_bytes
  refused-reply = rw refused-is

  pub refused-length : length (frame_reply config b clock s h) ≡ 24
  refused-length = rw (← refused-reply) (refusal-length h.opcode h.opaque (at_clock (head_of b) clock) (frame_status s h))

-- ---- a frame that goes on: key and stored value are short
pub key-short : (s : List ℕ) (h : Header) → reaches_decision s h ≡ true → length (bytes_in s (key_span h)) ≤ 250
unfolding key_span
key-short s h e =
    let k = key-most (shape_of h.opcode) h (bytes_in s (extras_span h)) (bytes_in s (value_span h)) e in
    omega (arith, part-most s (24 + h.extlen) h.keylen, k)

pub bytes_most : (op opaque : ℕ) (d : Decision) (key old : List ℕ) → length (body_of d.done.reply key old) ≤ 1278 → length (reply_bytes op opaque d key old) ≤ 1302
unfolding reply_bytes
bytes_most op opaque d key old k =
    cases d.silent
    (λ t. rw t (omega arith))
    (λ f.
    let header = reply_header op opaque d key old in
    rw f (omega (arith, length-append (header_bytes header) (body_of d.done.reply key old), length-header header, k)))

pub reply-most : (config : Config) (b : List ℕ) (clock : ℕ) (s : List ℕ) (h : Header) → Bytes b → sound b ≡ true → length (frame_reply config b clock s h) ≤ 1302
unfolding frame_reply
reply-most config b clock s h y k =
    let key = bytes_in s (key_span h) in
    cases (reaches_decision s h)
    (λ t. bytes_most h.opcode h.opaque (decision_at config b clock s h) key _
    (shown-body-most (decision_at config b clock s h).done.reply (table_of b).head.mark.0 (table_of b).rows (clock_at (table_of b) clock) key (key-short s h t) (sound-good b y k).1.rows))
    (λ f. omega (arith, refused-length config b s clock h f))
