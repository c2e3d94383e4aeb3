-- Order 6: "what was replayed before is the same as serving those frames and purging one by one." Over the list of calls that a trace spells, each with its clock. `Spelling.antt` says it of every trace. Proved in proofs/Serving.antt.
use Rattle.std.specs.Prelude.{ℕ, ◌+◌, ◌≡◌, List, [], ◌∷◌, ◌++◌, length, replicate, Option, Some, None}
use Rattle.engine.specs.declared.Config.{Config}
use Rattle.octets.specs.Parts.{Bytes, part}
use Rattle.serving.specs.Serve.{Done, served, served_reply}
use Rattle.trace.specs.declared.Field.{Field}
use Rattle.trace.specs.declared.Field.TheVariants.{Clock, Frame, Reply, Purge as Purges, Rule}
use Rattle.trace.specs.Trace.{Placed}
use Rattle.replay.specs.Replay.{Ending, Damaged, Differs, Stopped, Replayed, After, sent_reply}
use Rattle.promises.specs.Clock.{TableCall, Serve, Purge, memory_after}

-- ---- the calls that fields spell
-- "tag 1 clock": the clock after a field
abbrev pub clock_by : ℕ → Option Field → ℕ
clock_by clock (Some (Clock n)) = n
clock_by clock (Some (Frame len)) = clock
clock_by clock (Some (Reply len)) = clock
clock_by clock (Some (Purges bound)) = clock
clock_by clock (Some (Rule forcing)) = clock
clock_by clock None = clock

-- "tag 2 one request frame", "tag 4 a purge bound": the call that a field asks for, if it asks for one
abbrev pub call_by : ℕ → Option Field → List ℕ → List TableCall
call_by clock (Some (Clock n)) bytes = []
call_by clock (Some (Frame len)) bytes = Serve (record { clock = clock; received = bytes; reply = replicate {A = ℕ} 1302 0 }) ∷ []
call_by clock (Some (Reply len)) bytes = []
call_by clock (Some (Purges bound)) bytes = Purge clock bound.0 ∷ []
call_by clock (Some (Rule forcing)) bytes = []
call_by clock None bytes = []

abbrev pub calls_of : ℕ → List Placed → List TableCall
calls_of clock [] = []
calls_of clock (p ∷ ps) = call_by clock p.field p.bytes ++ calls_of (clock_by clock p.field) ps

abbrev pub frames_by : Option Field → ℕ
frames_by (Some (Clock n)) = 0
frames_by (Some (Frame len)) = 1
frames_by (Some (Reply len)) = 0
frames_by (Some (Purges bound)) = 0
frames_by (Some (Rule forcing)) = 0
frames_by None = 0

abbrev pub frames_in : List Placed → ℕ
frames_in [] = 0
frames_in (p ∷ ps) = frames_by p.field + frames_in ps

-- the last frame's reply, none before any frame
abbrev pub last_by : Config → List ℕ → ℕ → Option (List ℕ) → Option Field → List ℕ → Option (List ℕ)
last_by config b clock last (Some (Clock n)) bytes = last
last_by config b clock last (Some (Frame len)) bytes = Some (sent_reply config b clock bytes)
last_by config b clock last (Some (Reply len)) bytes = last
last_by config b clock last (Some (Purges bound)) bytes = last
last_by config b clock last (Some (Rule forcing)) bytes = last
last_by config b clock last None bytes = last

-- ---- on a table's memory b, at a clock, after a frame with this reply or none
-- "exactly one frame with outcome 0": it is served with some status and a reply of so many bytes, and all bytes are consumed
pub record OneFrame (config : Config) (b : List ℕ) (clock : ℕ) (bytes : List ℕ) (len : ℕ) : Type 0 where
  pub status : ℕ
  pub sent : ℕ
  pub answer : served config b clock bytes 1302 ≡ Done status len sent

-- a field that doesn't end the replay
abbrev pub LeadsOn : Config → List ℕ → ℕ → Option (List ℕ) → Option Field → List ℕ → Type 0
LeadsOn config b clock last (Some (Clock n)) bytes = Unit {0}
LeadsOn config b clock last (Some (Frame len)) bytes = OneFrame config b clock bytes len
LeadsOn config b clock last (Some (Reply len)) bytes = last ≡ Some bytes
LeadsOn config b clock last (Some (Purges bound)) bytes = Unit {0}
LeadsOn config b clock last (Some (Rule forcing)) bytes = Unit {0}
LeadsOn config b clock last None bytes = ⊥

abbrev pub AllLeadOn : Config → List ℕ → ℕ → Option (List ℕ) → List Placed → Type 0
AllLeadOn config b clock last [] = Unit {0}
AllLeadOn config b clock last (p ∷ ps) =
    LeadsOn config b clock last p.field p.bytes
    × AllLeadOn config (memory_after config b (call_by clock p.field p.bytes)) (clock_by clock p.field) (last_by config b clock last p.field p.bytes) ps

-- the field that ends it: an expected reply that isn't the last frame's, or what stops it
abbrev pub DiffersAt : List ℕ → ℕ → Option (List ℕ) → Option Field → List ℕ → Type 0
DiffersAt b clock last (Some (Reply len)) bytes = (r : List ℕ) × ((last ≡ Some r) × (r ≡ bytes → ⊥))
DiffersAt b clock last (Some (Clock n)) bytes = ⊥
DiffersAt b clock last (Some (Frame len)) bytes = ⊥
DiffersAt b clock last (Some (Purges bound)) bytes = ⊥
DiffersAt b clock last (Some (Rule forcing)) bytes = ⊥
DiffersAt b clock last None bytes = ⊥

abbrev pub StopsAt : Config → List ℕ → ℕ → Option (List ℕ) → Option Field → List ℕ → Type 0
StopsAt config b clock last (Some (Reply len)) bytes = last ≡ None
StopsAt config b clock last (Some (Clock n)) bytes = ⊥
StopsAt config b clock last (Some (Frame len)) bytes = OneFrame config b clock bytes len → ⊥
StopsAt config b clock last (Some (Purges bound)) bytes = ⊥
StopsAt config b clock last (Some (Rule forcing)) bytes = ⊥
StopsAt config b clock last None bytes = Unit {0}

-- where a replay of these fields ended, after some that lead on
abbrev pub EndsAt : Config → List ℕ → ℕ → Option (List ℕ) → ℕ → List Placed → Ending → Type 0
EndsAt config b clock last n [] (Replayed m) = m ≡ n
EndsAt config b clock last n [] (Differs at) = ⊥
EndsAt config b clock last n [] (Stopped at) = ⊥
EndsAt config b clock last n [] Damaged = ⊥
EndsAt config b clock last n (p ∷ ps) (Replayed m) = ⊥
EndsAt config b clock last n (p ∷ ps) (Differs at) = (at ≡ p.at) × DiffersAt b clock last p.field p.bytes
EndsAt config b clock last n (p ∷ ps) (Stopped at) = (at ≡ p.at) × StopsAt config b clock last p.field p.bytes
EndsAt config b clock last n (p ∷ ps) Damaged = ⊥

-- after fields that lead on: the clock, and the last frame's reply
abbrev pub clock_past : ℕ → List Placed → ℕ
clock_past clock [] = clock
clock_past clock (p ∷ ps) = clock_past (clock_by clock p.field) ps

abbrev pub last_after : Config → List ℕ → ℕ → Option (List ℕ) → List Placed → Option (List ℕ)
last_after config b clock last [] = last
last_after config b clock last (p ∷ ps) =
    last_after config (memory_after config b (call_by clock p.field p.bytes)) (clock_by clock p.field) (last_by config b clock last p.field p.bytes) ps

-- ---- the replay of fields
pub record ReplaysAs (config : Config) (b : List ℕ) (clock : ℕ) (last : Option (List ℕ)) (n : ℕ) (fields : List Placed) (e : After) : Type 0 where
  -- those before the place where it ended, and the others
  pub done : List Placed
  pub rest : List Placed
  pub split : fields ≡ done ++ rest
  -- each of their frames was served with outcome 0, and each reply that they expect was sent
  pub goes : AllLeadOn config b clock last done
  -- "what was replayed before is the same as serving those frames and purging one by one"
  pub table : e.table ≡ memory_after config b (calls_of clock done)
  pub ends : EndsAt config (memory_after config b (calls_of clock done)) (clock_past clock done) (last_after config b clock last done) (n + frames_in done) rest e.answer

-- the reply that is compared is the one that serving puts at the start of the reply area
abbrev pub SentIsReply : Config → Type 0
SentIsReply config =
    (b : List ℕ) (clock : ℕ) (s out : List ℕ) (status used len : ℕ) → Bytes b → length out ≡ 1302 → served config b clock s (length out) ≡ Done status used len
    → sent_reply config b clock s ≡ part (served_reply config b clock s out) 0 len
