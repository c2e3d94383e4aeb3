-- What the frames that were held leave when they have been served.
use Rattle.std.specs.Prelude.{ℕ, ◌+◌, ◌<◌, cond, ◌≡◌, List, eqb, length, take, drop, Bool, IsTrue}
use Rattle.std.specs.declared.option.Option.{Option}
use Rattle.std.specs.Io.KnownBytes.{Appends}
use Rattle.header.specs.Header.{header_of}
use Rattle.engine.specs.declared.Config.{Config}
use Rattle.serving.specs.Serve.{Served, Refused, Done, served_used, served_length, served, served_table, served_reply}
use Rattle.tally.specs.Counts.{counted_of}
use Rattle.run.specs.Run.{Stand, called_on}
use Rattle.contact_box.specs.declared.session.Next.{Next}
use Rattle.contact_box.specs.declared.session.Next.TheVariants.{Receive, Serve, Close}
use Rattle.contact_box.specs.declared.session.Held.{Held}
use Rattle.contact_box.specs.declared.session.Session.{Session}
use Rattle.contact_box.specs.Recorder.{Records}

-- by 01's outcome: 1 wants more bytes, 4 wants reply room, and 2 and 3 have the caller close. After 5 no frame can be served; after a
-- frame that was served comes the next
abbrev pub next_of : Served → Next
next_of (Refused n need) = cond (eqb n 1) Receive (cond (eqb n 4) Serve Close)
next_of (Done status used len) = Serve

-- the received bytes that no frame has consumed
abbrev pub held_of : Held → List ℕ → List ℕ
held_of h received = drop h.at (take h.end received)

abbrev pub past : Held → ℕ → Held
past h used = record { at = h.at + used; end = h.end }

-- where more is to be received, less is held than the largest frame takes: there is room for it
abbrev pub Waits : Next → List ℕ → Type 0
Waits Receive held = length held < 1424
Waits Serve held = Unit {0}
Waits Close held = Unit {0}

-- the bytes that were held still are, with those that came behind them
pub record Receives (held received : List ℕ) (s r : Session) : Type 0 where
  pub kept : take (length held) (held_of r.held received) ≡ held
  pub counted : r.tally ≡ s.tally
  pub recorded : r.recorder ≡ s.recorder
  pub waits : Waits r.next (held_of r.held received)

-- replies were handed to the output, all of them, or the session ends; it ends also at an answer that has the caller close
pub record Sends (answer : Served) (reply : List ℕ) (old new : Option (List ℕ)) (next : Next) : Type 0 where
  pub written : Bool
  pub goes : next ≡ cond written (next_of answer) Close
  pub sent : IsTrue written → Appends old new reply

-- the bytes that were held are served as a run, and those that no frame consumed are held still
pub record Goes (end : Stand) (table received : List ℕ) (s r : Session) : Type 0 where
  pub stored : table ≡ end.table
  pub counted : r.tally ≡ end.tally
  pub recorded : r.recorder ≡ s.recorder
  pub left : r.held ≡ past s.held end.at
  pub kept : held_of r.held received ≡ drop end.at (held_of s.held received)
  pub waits : Waits r.next (held_of r.held received)

-- and its replies are handed on
abbrev pub SendsAll : Config → ℕ → List ℕ → Stand → Option (List ℕ) → Option (List ℕ) → Next → Type 0
SendsAll config clock run end old new next = Sends (called_on config clock run end) (take end.filled end.reply) old new next

-- the first frame of a run, or as much of it as there is
abbrev pub first_frame : List ℕ → List ℕ
first_frame run = take (24 + (header_of run).body) run

abbrev pub first_answer : Config → ℕ → List ℕ → List ℕ → List ℕ → Served
first_answer config clock run b out = served config b clock (first_frame run) (length out)

abbrev pub first_reply : Config → ℕ → List ℕ → List ℕ → List ℕ → List ℕ
first_reply config clock run b out = take (served_length (first_answer config clock run b out)) (served_reply config b clock (first_frame run) out)

-- the first frame of the bytes that were held is served and recorded, all of it, and the bytes behind it are held still
pub record GoesOne (config : Config) (clock : ℕ) (run b out table received : List ℕ) (s r : Session) : Type 0 where
  pub answer : Served
  pub answered : answer ≡ served config b clock (first_frame run) (length out)
  pub whole : (status used len : ℕ) → answer ≡ Done status used len → used ≡ length (first_frame run)
  pub stored : table ≡ served_table config b clock (first_frame run) (length out)
  pub counted : r.tally ≡ counted_of s.tally answer
  pub left : r.held ≡ past s.held (served_used answer)
  pub kept : held_of r.held received ≡ drop (served_used answer) run
  pub recorded : Records s.recorder clock answer (first_frame run) (take (served_length answer) (served_reply config b clock (first_frame run) out)) r.recorder
  pub waits : Waits r.next (held_of r.held received)
