-- For the code alone: what serving leaves of any memory taken for a table that is not damaged, with this head. Where it is one and has that head, this is
-- serving itself (serve/specs/Claims.antt).
use Rattle.std.specs.Prelude.{ℕ, ◌+◌, ◌≡◌, cond, List, length, ltb}
use Rattle.octets.specs.Parts.{part, written}
use Rattle.octets.specs.BigEndian.{bytes_of}
use Rattle.numbers.specs.Expiry.{later}
use Rattle.header.specs.declared.Header.{Header}
use Rattle.header.specs.Header.{header_bytes}
use Rattle.request.specs.Reading.{Gate, Stop, Whole, gate_of, frame_status, bytes_in, key_span}
use Rattle.document.specs.Documents.{Key}
use Rattle.document.specs.declared.Head.{Head}
use Rattle.document.specs.Head.{at_clock}
use Rattle.digits.specs.Decimal.{number_of}
use Rattle.commands.specs.declared.Instruction.{Instruction}
use Rattle.commands.specs.Writes.{is_mutation}
use Rattle.decision.specs.Decision.{Decision, decision}
use Rattle.decision.specs.Decide.{instruction_of}
use Rattle.decode.specs.Decode.{bare_value}
use Rattle.engine.specs.declared.Config.{Config}
use Rattle.table.specs.declared.Lookup.{Lookup}
use Rattle.table.specs.Calls.{has_place, lookup_of}
use Rattle.reply.specs.Fitting.{bare_header}
use Rattle.serving.specs.Serve.{Served, Refused, Done, reaches_decision, asked_of}
use Rattle.step.specs.Answer.{reply_to}
use Rattle.step.specs.Change.{changed_by}

-- a call's answer, and the table's memory and the reply area after it
pub record Stepped : Type 0 where
  pub answer : Served
  pub table : List ℕ
  pub reply : List ℕ

pub record Steps (x : Stepped) (r : Served) (b' out' : List ℕ) : Type 0 where
  pub answer : r ≡ x.answer
  pub table : b' ≡ x.table
  pub reply : out' ≡ x.reply

-- a bare header with a status, and nothing stored but the clock
abbrev pub refused_step : List ℕ → Head → ℕ → Header → List ℕ → ℕ → Stepped
refused_step b head clock h out status = record {
  answer = Done status (24 + h.body) 24;
  table = written b 4 (bytes_of 4 (later head.clock clock));
  reply = written out 0 (header_bytes (bare_header h.opcode h.opaque status));
}

-- the value that a lookup found
abbrev pub value_found : List ℕ → Lookup → List ℕ
value_found b l = part b l.at l.len

abbrev pub decided_by : Head → ℕ → Lookup → List ℕ → Instruction → Decision
decided_by head clock l old ask = decision (record { head = head; row = l.stored; free = has_place l.place; clock = clock; number = number_of old; size = length old }) ask

-- answered and stored by a decision
abbrev pub decided_step : Config → List ℕ → ℕ → Header → Key → List ℕ → List ℕ → Lookup → Decision → Stepped
decided_step config b clock h key value out l d = record {
  answer = Done d.status (24 + h.body) (length (reply_to config (length out) b clock h d key (value_found b l)));
  table = changed_by config b l key d.done value;
  reply = written out 0 (reply_to config (length out) b clock h d key (value_found b l));
}

-- by what a lookup of the key found
abbrev pub found_step : Config → List ℕ → Head → Header → Instruction → Key → List ℕ → List ℕ → Lookup → Stepped
found_step config b now h ask key value out l = decided_step config b now.clock h key value out l (decided_by now now.clock l (value_found b l) ask)

-- what an instruction for a key leaves, at the later of the kept clock and the call's
unfoldable pub asked_step : Config → List ℕ → Head → ℕ → Header → Instruction → Key → List ℕ → List ℕ → Stepped
asked_step config b head clock h ask key value out = found_step config b (at_clock head clock) h ask key value out (lookup_of config (is_mutation ask.command) b key)

-- what a whole frame leaves
unfoldable pub frame_step : Config → List ℕ → Head → ℕ → List ℕ → Header → List ℕ → Stepped
unfolding asked_step
frame_step config b head clock s h out =
    cond (reaches_decision s h)
    (asked_step config b head clock h (instruction_of (asked_of config s h)) (bytes_in s (key_span h)) (bare_value s h) out)
    (refused_step b head clock h out (frame_status s h))

abbrev pub gate_step : Config → List ℕ → Head → ℕ → List ℕ → List ℕ → Gate → Stepped
gate_step config b head clock s out (Stop n need) = record { answer = Refused n need; table = b; reply = out }
gate_step config b head clock s out (Whole h) = frame_step config b head clock s h out

-- the outcomes from 4 on, in the order tested
unfoldable pub step_of : Config → List ℕ → Head → ℕ → List ℕ → List ℕ → Stepped
unfolding frame_step
step_of config b head clock s out = gate_step config b head clock s out (cond (ltb (length out) 1302) (Stop 4 0) (gate_of s))
