-- Order 6: what replaying a trace answers, and what it leaves of the memory lent for the table; order 9: under which rule of force.
use Rattle.std.specs.Prelude.{ℕ, ◌+◌, List, [], ◌∷◌, Bool, false, cond, length, eqb, Option, Some, None}
use Rattle.std.specs.declared.result.Result.{Result}
use Rattle.std.specs.declared.result.Result.TheVariants.{Ok, Err}
use Rattle.replay.specs.declared.ReplayError.{ReplayError}
use Rattle.replay.specs.declared.ReplayError.TheVariants.{Damaged as NotReplayed, Differs as DiffersAt, Stopped as StoppedAt}
use Rattle.engine.specs.declared.Config.{Config}
use Rattle.octets.specs.Compare.{same}
use Rattle.request.specs.Reading.{Gate, Stop, Whole}
use Rattle.rows.specs.Table.{table_bytes, fresh}
use Rattle.owning.specs.Owner.{purged_bytes}
use Rattle.serving.specs.Serve.{Served, Refused, Done, gate_all, frame_reply, served, served_table}
use Rattle.trace.specs.declared.Opening.{Opening}
use Rattle.trace.specs.declared.Field.{Field}
use Rattle.trace.specs.declared.Field.TheVariants.{Clock, Frame, Reply, Purge, Rule}
use Rattle.trace.specs.Trace.{Placed, opening_of, forcing_in, fields_in}

-- what a replay answers: outcome 5, where the lent memory is of another size; else where it ended: at the place of an expected reply that was not sent, at the place of what stopped it, or after so many frames
pub data Ending : Type 0 where
  Damaged : Ending
  Differs : ℕ → Ending
  Stopped : ℕ → Ending
  Replayed : ℕ → Ending

-- what the code answers
abbrev pub error_told : ReplayError → Ending
error_told NotReplayed = Damaged
error_told (DiffersAt at) = Differs at
error_told (StoppedAt at) = Stopped at

abbrev pub ending_told : Result ℕ ReplayError → Ending
ending_told (Ok frames) = Replayed frames
ending_told (Err e) = error_told e

-- what stands between two fields: the table's memory, the clock, the frames served so far and the last one's reply
pub record Voyage : Type 0 where
  pub table : List ℕ
  pub clock : ℕ
  pub frames : ℕ
  pub reply : List ℕ

-- ---- one field
-- "exactly one frame with outcome 0": it is served, and all bytes of the field are consumed
abbrev pub is_one_frame : Served → ℕ → Bool
is_one_frame (Refused n need) len = false
is_one_frame (Done status used sent) len = eqb used len

-- the bytes of a reply, none where the frame is silent
abbrev pub reply_for : Config → List ℕ → ℕ → List ℕ → Gate → List ℕ
reply_for config b clock s (Stop n need) = []
reply_for config b clock s (Whole h) = frame_reply config b clock s h

unfoldable pub sent_reply : Config → List ℕ → ℕ → List ℕ → List ℕ
sent_reply config b clock s = reply_for config b clock s (gate_all config b 1302 s)

-- after a field that goes on
abbrev pub with_clock : ℕ → Voyage → Voyage
with_clock clock v = record { table = v.table; clock = clock; frames = v.frames; reply = v.reply }

abbrev pub with_frame : Config → List ℕ → Voyage → Voyage
with_frame config frame v = record {
  table = served_table config v.table v.clock frame 1302;
  clock = v.clock;
  frames = v.frames + 1;
  reply = sent_reply config v.table v.clock frame;
}

abbrev pub with_purge : Config → ℕ → Voyage → Voyage
with_purge config bound v = record { table = purged_bytes config v.table v.clock bound; clock = v.clock; frames = v.frames; reply = v.reply }

-- a field leads on, or to the end
pub data Turn : Type 0 where
  On : Voyage → Turn
  End : Ending → Turn

-- by the field at a place and the bytes that it holds
abbrev pub on_field : Config → ℕ → Voyage → Option Field → List ℕ → Turn
on_field config at v (Some (Clock clock)) bytes = On (with_clock clock v)
-- "a tag 2 field that isn't exactly one frame with outcome 0 [..] stops the replay with its place"
on_field config at v (Some (Frame len)) bytes = cond (is_one_frame (served config v.table v.clock bytes 1302) len) (On (with_frame config bytes v)) (End (Stopped at))
-- "a tag 3 before any frame [..] stops the replay with its place"; "`differs` and the place of the first tag 3 that isn't the last frame's reply"
on_field config at v (Some (Reply len)) bytes = cond (eqb v.frames 0) (End (Stopped at)) (cond (same bytes v.reply) (On v) (End (Differs at)))
on_field config at v (Some (Purge bound)) bytes = On (with_purge config bound.0 v)
-- the rule of the whole trace, as `ruled_by` has it
on_field config at v (Some (Rule forcing)) bytes = On v
-- "An unknown tag [..], wrong length, [..] or a cut field stops the replay with its place"
on_field config at v None bytes = End (Stopped at)

-- ---- a voyage
-- what a replay answers, and the memory that it leaves
pub record After : Type 0 where
  pub answer : Ending
  pub table : List ℕ

abbrev pub on_turn : Voyage → Turn → (Voyage → After) → After
on_turn v (On w) go = go w
on_turn v (End r) go = record { answer = r; table = v.table }

-- field by field, to the first that ends it; "or `replayed` and the number of frames"
abbrev pub walked : Config → Voyage → List Placed → After
walked config v [] = record { answer = Replayed v.frames; table = v.table }
walked config v (p ∷ ps) = on_turn v (on_field config p.at v p.field p.bytes) (λ w. walked config w ps)

-- "on a fresh active table of 32 rows"; "The clock is 0 until a tag 1."
abbrev pub set_out : ℕ → ℕ → Voyage
set_out mode vbucket = record { table = table_bytes (fresh 32 1 mode vbucket); clock = 0; frames = 0; reply = [] }

-- "a trace replays under the new rule exactly if its first field is tag 5 with one byte of 2": its rule is the trace's, whatever the caller's
abbrev pub ruled_by : Config → List ℕ → Config
ruled_by config trace = record { engine = config.engine; forcing = forcing_in trace }

-- "A place is [..] 0 for a bad opening or a trace over 65,536 bytes."
abbrev pub on_opening : Config → List ℕ → List ℕ → Option Opening → After
on_opening config b trace None = record { answer = Stopped 0; table = b }
on_opening config b trace (Some o) = walked (ruled_by config trace) (set_out o.mode o.vbucket) (fields_in trace)

-- a table of 32 rows takes 42,000 bytes; lent memory of another size is refused as in making a table, unchanged
unfoldable pub replayed : Config → List ℕ → List ℕ → After
replayed config b trace = cond (eqb (length b) 42000) (on_opening config b trace (opening_of trace)) (record { answer = Damaged; table = b })

-- 01's number for the answer: 5 where the lent memory is of another size
abbrev pub replay_outcome : Ending → ℕ
replay_outcome Damaged = 5
replay_outcome (Differs at) = 0
replay_outcome (Stopped at) = 0
replay_outcome (Replayed n) = 0
