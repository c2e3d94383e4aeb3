-- Reading a request: outcomes 1, 2, 3 of document 01, then statuses 1 to 3 save the rules that need mode or clock, else the fields.
use Rattle.std.specs.Prelude.{ℕ, ◌+◌, ◌-◌, List, not, cond, length, ltb, eqb}
use Rattle.std.specs.declared.option.Option.{Option}
use Rattle.std.specs.declared.option.Option.TheVariants.{Some, None}
use Rattle.std.specs.declared.result.Result.{Result}
use Rattle.std.specs.declared.result.Result.TheVariants.{Ok, Err}
use Rattle.octets.specs.Parts.{part}
use Rattle.outcome.specs.declared.Refusal.{Refusal}
use Rattle.outcome.specs.Outcome.{status_number, refusal_number, refusal_needed}
use Rattle.shape.specs.Shapes.{shape_of}
use Rattle.header.specs.Header.{header_of}
use Rattle.header.specs.Layout.{layout_of}
use Rattle.header.specs.declared.Header.{Header}
use Rattle.rules.specs.Rules.{status, meta_size}
use Rattle.request.specs.declared.Fields.{Fields}
use Rattle.request.specs.declared.Span.{Span}
use Rattle.request.specs.declared.Frame.{Frame}
use Rattle.request.specs.declared.ReadingNumbers.{ReadingNumbers}
use Rattle.request.specs.declared.ReadingNumbers.TheVariants.{Outcome as OutcomeNumber, Status as StatusNumber, Accepted as Shown}
use Rattle.request.specs.declared.Unread.{Unread}
use Rattle.request.specs.declared.Unread.TheVariants.{Refused, Status as Answered}

-- 01's outcome with the bytes that it says are needed from the frame's start, 0 where 01 has it say none, or the header of a whole frame
pub data Gate : Type 0 where
  Stop : ℕ → ℕ → Gate
  Whole : Header → Gate

-- 01's outcome, 01's status, or what reading shows
pub data Reading : Type 0 where
  Outcome : ℕ → Reading
  Status : ℕ → Reading
  Accepted : Frame → Reading

-- the gate and the reading of what the code answers
abbrev pub gate_told : Result Header Refusal → Gate
gate_told (Ok h) = Whole h
gate_told (Err refusal) = Stop (refusal_number refusal) (refusal_needed refusal)

abbrev pub unread_told : Unread → Reading
unread_told (Refused refusal) = Outcome (refusal_number refusal)
unread_told (Answered status) = Status (status_number status)

abbrev pub reading_told : Result Frame Unread → Reading
reading_told (Ok frame) = Accepted frame
reading_told (Err unread) = unread_told unread

-- the reading that an answer by its numbers says
abbrev pub numbers_told : ReadingNumbers → Reading
numbers_told (OutcomeNumber n) = Outcome n
numbers_told (StatusNumber n) = Status n
numbers_told (Shown frame) = Accepted frame

-- the bytes that the code's answer says are needed from the frame's start, 0 where it says none
abbrev pub unread_needed : Unread → ℕ
unread_needed (Refused refusal) = refusal_needed refusal
unread_needed (Answered status) = 0

abbrev pub reading_needed : Result Frame Unread → ℕ
reading_needed (Ok frame) = 0
reading_needed (Err unread) = unread_needed unread

-- the request of a reading, where it was read
abbrev pub accepted : Reading → Option Frame
accepted (Outcome n) = None
accepted (Status n) = None
accepted (Accepted f) = Some f

-- 01's numbers for the gate: its outcome, 0 where a whole frame stands there, and the bytes that it says are needed from the frame's start, 0 where 01 has it say none
abbrev pub gate_outcome : Gate → ℕ
gate_outcome (Stop n need) = n
gate_outcome (Whole h) = 0

abbrev pub gate_needed : Gate → ℕ
gate_needed (Stop n need) = need
gate_needed (Whole h) = 0

-- 01's numbers for an answer of the reader: its outcome, 0 where a whole frame stands there, and its status, 0 where no rule applies
abbrev pub reading_outcome : Reading → ℕ
reading_outcome (Outcome n) = n
reading_outcome (Status n) = 0
reading_outcome (Accepted f) = 0

abbrev pub reading_status : Reading → ℕ
reading_status (Outcome n) = 0
reading_status (Status n) = n
reading_status (Accepted f) = 0

-- the outcomes, in the order tested, each with the bytes needed from the frame's start (0 where 01 promises none), or the header of a whole frame
unfoldable pub gate_of : List ℕ → Gate
gate_of s =
    cond (ltb (length s) 24) (Stop 1 24)
    (cond (not (eqb (header_of s).magic 0x80)) (Stop 2 0)
    (cond (ltb 1400 (header_of s).body) (Stop 3 0)
    (cond (ltb (length s) (24 + (header_of s).body)) (Stop 1 (24 + (header_of s).body))
    (Whole (header_of s)))))

-- extras, key and value of a frame
unfoldable pub extras_span : Header → Span
extras_span h = record { at = (layout_of h).extras; len = h.extlen }

unfoldable pub key_span : Header → Span
key_span h = record { at = (layout_of h).key; len = h.keylen }

unfoldable pub value_span : Header → Span
value_span h = record { at = (layout_of h).value; len = h.body - (h.extlen + h.keylen) }

-- the bytes of a span
abbrev pub bytes_in : List ℕ → Span → List ℕ
bytes_in s p = part s p.at p.len

unfoldable pub fields_of : Header → Fields
fields_of h = record { opcode = h.opcode; datatype = h.datatype; vbucket = h.vbucket; opaque = h.opaque; cas = h.cas }

-- what reading shows of a frame with this header; `meta` counts the bytes of extended meta at the value's end
unfoldable pub frame_of : List ℕ → Header → Frame
unfolding extras_span key_span value_span fields_of
frame_of s h = record {
  fields = fields_of h;
  extras = extras_span h;
  key = key_span h;
  value = value_span h;
  meta = meta_size (shape_of h.opcode) (bytes_in s (extras_span h));
}

-- statuses 1 to 3 of a whole frame with this header
unfoldable pub frame_status : List ℕ → Header → ℕ
unfolding extras_span value_span
frame_status s h = status h (bytes_in s (extras_span h)) (bytes_in s (value_span h))

unfoldable pub whole_reading : List ℕ → Header → Reading
unfolding frame_status frame_of
whole_reading s h = cond (eqb (frame_status s h) 0) (Accepted (frame_of s h)) (Status (frame_status s h))

abbrev pub gated : List ℕ → Gate → Reading
gated s (Stop n need) = Outcome n
gated s (Whole h) = whole_reading s h

unfoldable pub reading : List ℕ → Reading
unfolding gate_of whole_reading
reading s = gated s (gate_of s)
