-- The answers as C takes them: a struct of numbers for each, in which outcomes and statuses are document 01's. What an answer doesn't have is 0.
use Rattle.std.specs.Prelude.{ℕ, ℤ, pos, Option, Some, None}
use Rattle.numbers.specs.declared.Numbers.{Numbers}
use Rattle.numbers.specs.Expiry.{seconds_in}
use Rattle.request.specs.declared.Span.{Span}
use Rattle.request.specs.declared.Frame.{Frame}
use Rattle.request.specs.declared.Fields.{Fields}
use Rattle.request.specs.Reading.{Reading, Outcome, Status, Accepted, reading_outcome, reading_status}
use Rattle.request_writer.specs.Writing.{Written, Refused as NotWritten, NoRoom, Wrote, status_no, outcome_no}
use Rattle.serving.specs.Serve.{Served, served_outcome, served_status, served_used, served_length, served_needed}
use Rattle.owning.specs.Owner.{Activated, Purged, Document, Damaged, Missing, Expired, Live, read_outcome, read_status, purge_outcome, purged_count, activate_outcome, activate_status}
use Rattle.run.specs.Run.{Ran}
use Rattle.replay.specs.Replay.{Ending, Damaged as NotReplayed, Differs, Stopped, Replayed, replay_outcome}
use Rattle.answers.specs.declared.Part.{Part}
use Rattle.answers.specs.declared.ServedAnswer.{ServedAnswer}
use Rattle.answers.specs.declared.RanAnswer.{RanAnswer}
use Rattle.answers.specs.declared.DocumentAnswer.{DocumentAnswer}
use Rattle.answers.specs.declared.PurgedAnswer.{PurgedAnswer}
use Rattle.answers.specs.declared.ActivatedAnswer.{ActivatedAnswer}
use Rattle.answers.specs.declared.RequestAnswer.{RequestAnswer}
use Rattle.answers.specs.declared.WrittenAnswer.{WrittenAnswer}
use Rattle.answers.specs.declared.ReplayedAnswer.{ReplayedAnswer}

abbrev pub served_answer : Served → ServedAnswer
served_answer r = record { outcome = served_outcome r; status = served_status r; used = served_used r; reply = served_length r; needed = served_needed r }

-- a run stops at a refused call: why, and what was consumed and answered before it
abbrev pub ran_answer : Ran → RanAnswer
ran_answer r = record {
  outcome = served_outcome r.stop;
  used = r.cursor.at;
  reply = r.filled;
  needed = served_needed r.stop;
}

abbrev pub part_of : Span → Part
part_of p = record { at = p.at; len = p.len }

abbrev pub no_part : Part
no_part = record { at = 0; len = 0 }

-- order 5, what `left` is: 1, the document never expires and `left` is 0; 2, so many seconds are left. 0: there is none to tell
abbrev pub lifetime_of : Option ℤ → ℕ
lifetime_of None = 1
lifetime_of (Some n) = 2

-- a document's four numbers, the time that is left and where its value stands
abbrev pub live_answer : Numbers → Option ℤ → ℕ → ℕ → DocumentAnswer
live_answer n left at len = record {
  outcome = read_outcome (Live n left at len);
  status = read_status (Live n left at len);
  lifetime = lifetime_of left;
  flags = n.flags;
  expiry = n.expiry;
  revision = n.revision.0;
  cas = n.cas.0;
  left = seconds_in left;
  value = record { at = at; len = len };
}

abbrev pub no_document : ℕ → ℕ → ℕ → ℤ → DocumentAnswer
no_document outcome status lifetime left = record {
  outcome = outcome;
  status = status;
  lifetime = lifetime;
  flags = 0;
  expiry = 0;
  revision = 0;
  cas = 0;
  left = left;
  value = no_part;
}

abbrev pub document_answer : Document → DocumentAnswer
document_answer Damaged = no_document (read_outcome Damaged) (read_status Damaged) 0 (pos 0)
document_answer Missing = no_document (read_outcome Missing) (read_status Missing) 0 (pos 0)
document_answer (Expired s) = no_document (read_outcome (Expired s)) (read_status (Expired s)) (lifetime_of (Some s)) s
document_answer (Live n left at len) = live_answer n left at len

abbrev pub purged_answer : Purged → PurgedAnswer
purged_answer p = record { outcome = purge_outcome p; freed = purged_count p }

abbrev pub activated_answer : Activated → ActivatedAnswer
activated_answer a = record { outcome = activate_outcome a; status = activate_status a }

abbrev pub request_refused : ℕ → ℕ → RequestAnswer
request_refused outcome status = record {
  outcome = outcome;
  status = status;
  opcode = 0;
  datatype = 0;
  vbucket = 0;
  opaque = 0;
  cas = 0;
  extras = no_part;
  key = no_part;
  value = no_part;
  meta = 0;
}

abbrev pub request_shown : Frame → RequestAnswer
request_shown f = record {
  outcome = reading_outcome (Accepted f);
  status = reading_status (Accepted f);
  opcode = f.fields.opcode;
  datatype = f.fields.datatype;
  vbucket = f.fields.vbucket;
  opaque = f.fields.opaque;
  cas = f.fields.cas.0;
  extras = part_of f.extras;
  key = part_of f.key;
  value = part_of f.value;
  meta = f.meta;
}

abbrev pub request_answer : Reading → RequestAnswer
request_answer (Outcome n) = request_refused (reading_outcome (Outcome n)) (reading_status (Outcome n))
request_answer (Status n) = request_refused (reading_outcome (Status n)) (reading_status (Status n))
request_answer (Accepted f) = request_shown f

-- the header fields of a request to write
abbrev pub fields_for : ℕ → ℕ → ℕ → ℕ → ℕ → Fields
fields_for opcode datatype vbucket opaque cas = record { opcode = opcode; datatype = datatype; vbucket = vbucket; opaque = opaque; cas = record { 0 = cas } }

abbrev pub written_answer : Written → WrittenAnswer
written_answer NotWritten = record { outcome = outcome_no NotWritten; status = status_no NotWritten; len = 0 }
written_answer NoRoom = record { outcome = outcome_no NoRoom; status = status_no NoRoom; len = 0 }
written_answer (Wrote n) = record { outcome = outcome_no (Wrote n); status = status_no (Wrote n); len = n }

-- order 6: 1 `differs`, 2 `stopped`, 3 `replayed`; 0 where no trace was replayed
abbrev pub end_of : Ending → ℕ
end_of NotReplayed = 0
end_of (Differs at) = 1
end_of (Stopped at) = 2
end_of (Replayed n) = 3

abbrev pub place_of : Ending → ℕ
place_of NotReplayed = 0
place_of (Differs at) = at
place_of (Stopped at) = at
place_of (Replayed n) = 0

abbrev pub frames_of : Ending → ℕ
frames_of NotReplayed = 0
frames_of (Differs at) = 0
frames_of (Stopped at) = 0
frames_of (Replayed n) = n

abbrev pub replayed_answer : Ending → ReplayedAnswer
replayed_answer e = record { outcome = replay_outcome e; end = end_of e; place = place_of e; frames = frames_of e }
