-- Serving one request on a table of the engine that the call is for: the outcomes of document 01 in the order tested; then the request is decided, answered and stored.
use Rattle.std.specs.declared.result.Result.{Result}
use Rattle.std.specs.declared.result.Result.TheVariants.{Ok, Err}
use Rattle.std.specs.Prelude.{ℕ, ◌+◌, Bool, false, cond, not, List, length, eqb, ltb, Option, None}
use Rattle.octets.specs.Parts.{written}
use Rattle.header.specs.declared.Header.{Header}
use Rattle.shape.specs.Shapes.{shape_of}
use Rattle.rules.specs.Rules.{keeps_rules}
use Rattle.request.specs.Reading.{Gate, Stop, Whole, gate_of, frame_status, bytes_in, extras_span, key_span, value_span}
use Rattle.document.specs.declared.Head.{Head}
use Rattle.commands.specs.declared.Context.{Context}
use Rattle.effects.specs.declared.Reply.TheVariants.{Bare}
use Rattle.effects.specs.Done.{nothing}
use Rattle.decision.specs.Decision.{Decision, decision}
use Rattle.decision.specs.Decide.{Request, Effect, context_of, instruction_of, effect_of}
use Rattle.document.specs.Documents.{Key, Doc}
use Rattle.engine.specs.Engine.{store_row}
use Rattle.decode.specs.Decode.{request_of}
use Rattle.rows.specs.Table.{Table, table_of, table_at, clock_at, table_bytes}
use Rattle.engine.specs.declared.Config.{Config}
use Rattle.plain.specs.Damage.{checked_outcome}
use Rattle.engines.specs.Engines.{engine_of}
use Rattle.engines.specs.Damage.{sound_by}
use Rattle.rows.specs.Find.{find_row, free_rows}
use Rattle.outcome.specs.declared.Refusal.{Refusal}
use Rattle.outcome.specs.Outcome.{status_of, refusal_number, refusal_needed}
use Rattle.serving.specs.declared.Served.{Served as ServedFrame}
use Rattle.serving.specs.declared.ServedNumbers.{ServedNumbers}
use Rattle.serving.specs.declared.ServedNumbers.TheVariants.{Refused as RefusedNumbers, Done as DoneNumbers}
use Rattle.serving.specs.Reply.{reply_shows, reply_bytes}

-- ---- an outcome with the bytes needed from the frame's start, or status, bytes consumed and reply length
pub data Served : Type 0 where
  Refused : ℕ → ℕ → Served
  Done : ℕ → ℕ → ℕ → Served

-- what the code answers, in 01's numbers
abbrev pub served_told : Result ServedFrame Refusal → Served
served_told (Ok s) = Done (status_of s.status) s.used s.reply
served_told (Err refusal) = Refused (refusal_number refusal) (refusal_needed refusal)

-- an answer that stands in numbers, whatever they are
abbrev pub numbers_told : ServedNumbers → Served
numbers_told (RefusedNumbers n need) = Refused n need
numbers_told (DoneNumbers status used len) = Done status used len

-- ---- 01's numbers for each answer; what it doesn't have is 0
-- its outcome, 0 where a frame was served
abbrev pub served_outcome : Served → ℕ
served_outcome (Refused n need) = n
served_outcome (Done status used len) = 0

abbrev pub served_status : Served → ℕ
served_status (Refused n need) = 0
served_status (Done status used len) = status

-- whether a frame was served with status 0
abbrev pub served_succeeds : Served → Bool
served_succeeds (Refused n need) = false
served_succeeds (Done status used len) = eqb status 0

-- or with another
abbrev pub served_fails : Served → Bool
served_fails (Refused n need) = false
served_fails (Done status used len) = not (eqb status 0)

-- the bytes consumed
abbrev pub served_used : Served → ℕ
served_used (Refused n need) = 0
served_used (Done status used len) = used

-- the reply's length
abbrev pub served_length : Served → ℕ
served_length (Refused n need) = 0
served_length (Done status used len) = len

-- the bytes needed, where a frame isn't all there
abbrev pub served_needed : Served → ℕ
served_needed (Refused n need) = need
served_needed (Done status used len) = 0

-- 5 table damaged, 4 reply room under 1,302 bytes, then the frame's own
unfoldable pub gate_all : Config → List ℕ → ℕ → List ℕ → Gate
gate_all config b room s = cond (not (sound_by config b)) (Stop (checked_outcome None) 0) (cond (ltb room 1302) (Stop 4 0) (gate_of s))

-- the reader's status ends it, save a 0x83 for option 0x01 and a 0x03: a 0x04 that needs mode or clock comes before both
abbrev pub reaches_decision : List ℕ → Header → Bool
reaches_decision s h = keeps_rules (shape_of h.opcode) h (bytes_in s (extras_span h)) (bytes_in s (value_span h))

abbrev pub refusal : Head → ℕ → Decision
refusal h status = record { status = status; silent = false; done = nothing h Bare (record { 0 = 0 }) }

-- what a decision on a key's document sees of a table
abbrev pub context_on : Table → ℕ → Option Doc → Context
context_on t clock row = context_of t.head row (ltb 0 (free_rows t.rows)) clock

-- what a whole frame asks for, by the rule of force that the call is for
abbrev pub asked_of : Config → List ℕ → Header → Request
asked_of config s h = request_of config.forcing s h

-- the decision on a whole frame
unfoldable pub decision_on : Config → Table → ℕ → List ℕ → Header → Decision
decision_on config t clock s h =
    cond (reaches_decision s h)
    (decision (context_on t clock (find_row t.rows (bytes_in s (key_span h)))) (instruction_of (asked_of config s h)))
    (refusal t.head (frame_status s h))

-- what it does to the table, with the bytes put in
unfoldable pub frame_effect : Config → Table → ℕ → List ℕ → Header → Effect
unfolding decision_on
frame_effect config t clock s h = effect_of (asked_of config s h) (find_row t.rows (bytes_in s (key_span h))) (decision_on config t clock s h)

-- a table after a decision on one of its keys
abbrev pub table_changed : Config → Table → Key → Effect → Table
table_changed config t key x = record { head = x.head; rows = store_row (engine_of config) t.rows key x.store }

-- a table after a whole frame
abbrev pub frame_change : Config → Table → ℕ → List ℕ → Header → Table
frame_change config t clock s h = table_changed config t (bytes_in s (key_span h)) (frame_effect config t clock s h)

-- ---- order 2, on a table's memory: "every served frame, read and purge uses the later of the two", and the table keeps it, whatever the status
abbrev pub decision_at : Config → List ℕ → ℕ → List ℕ → Header → Decision
decision_at config b clock s h = decision_on config (table_at (table_of b) clock) (clock_at (table_of b) clock) s h

abbrev pub effect_at : Config → List ℕ → ℕ → List ℕ → Header → Effect
effect_at config b clock s h = frame_effect config (table_at (table_of b) clock) (clock_at (table_of b) clock) s h

-- the memory after a whole frame
unfoldable pub frame_table : Config → List ℕ → ℕ → List ℕ → Header → List ℕ
unfolding frame_effect
frame_table config b clock s h = table_bytes (frame_change config (table_at (table_of b) clock) (clock_at (table_of b) clock) s h)

unfoldable pub frame_reply : Config → List ℕ → ℕ → List ℕ → Header → List ℕ
unfolding decision_on
frame_reply config b clock s h =
    let x = decision_at config b clock s h in
    let key = bytes_in s (key_span h) in
    reply_bytes h.opcode h.opaque x key (reply_shows x.done.reply (table_of b).rows (clock_at (table_of b) clock) key)

-- ---- serving: by the gate
abbrev pub answer_by : Config → List ℕ → ℕ → List ℕ → Gate → Served
answer_by config b clock s (Stop n need) = Refused n need
answer_by config b clock s (Whole h) = Done (effect_at config b clock s h).status (24 + h.body) (length (frame_reply config b clock s h))

abbrev pub table_by : Config → List ℕ → ℕ → List ℕ → Gate → List ℕ
table_by config b clock s (Stop n need) = b
table_by config b clock s (Whole h) = frame_table config b clock s h

abbrev pub reply_by : Config → List ℕ → ℕ → List ℕ → List ℕ → Gate → List ℕ
reply_by config b clock s out (Stop n need) = out
reply_by config b clock s out (Whole h) = written out 0 (frame_reply config b clock s h)

-- what serving answers, and what it leaves of the table and of the reply area
unfoldable pub served : Config → List ℕ → ℕ → List ℕ → ℕ → Served
served config b clock s room = answer_by config b clock s (gate_all config b room s)

unfoldable pub served_table : Config → List ℕ → ℕ → List ℕ → ℕ → List ℕ
served_table config b clock s room = table_by config b clock s (gate_all config b room s)

unfoldable pub served_reply : Config → List ℕ → ℕ → List ℕ → List ℕ → List ℕ
served_reply config b clock s out = reply_by config b clock s out (gate_all config b (length out) s)
