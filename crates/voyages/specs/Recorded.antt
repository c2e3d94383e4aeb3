-- A trace that was recorded is replayed, with as many frames and to the same table: over any list of frames that were served one after another on a fresh table, each at its clock. Proved in proofs/Recorded.antt.
use Rattle.std.specs.Prelude.{ℕ, ◌^◌, ◌≤◌, ◌<◌, ◌≡◌, false, List, [], ◌∷◌, ◌++◌, length, take}
use Rattle.engine.specs.declared.Config.{Config}
use Rattle.octets.specs.Parts.{Bytes}
use Rattle.rows.specs.Table.{table_bytes, fresh}
use Rattle.serving.specs.Serve.{Done, served, served_table, served_reply}
use Rattle.trace_writer.specs.Writing.{opening_bytes, frame_fields}
use Rattle.replay.specs.Replay.{Replayed, sent_reply, replayed}
use Rattle.voyages.specs.Serving.{OneFrame}

-- a frame that was served at a clock
pub record Asked : Type 0 where
  pub clock : ℕ
  pub frame : List ℕ

-- the table that each leaves, and the one that all of them leave
abbrev pub left : Config → List ℕ → Asked → List ℕ
left config b a = served_table config b a.clock a.frame 1302

abbrev pub left_by_all : Config → List ℕ → List Asked → List ℕ
left_by_all config b [] = b
left_by_all config b (a ∷ xs) = left_by_all config (left config b a) xs

-- each was served, on the table that those before it left, and was all there was; a clock has 32 bits
abbrev pub AllServed : Config → List ℕ → List Asked → Type 0
AllServed config b [] = Unit {0}
AllServed config b (a ∷ xs) = (a.clock < 2 ^ 32) × (OneFrame config b a.clock a.frame (length a.frame) × AllServed config (left config b a) xs)

-- what they add to a trace that told a clock last
abbrev pub fields_added : Config → List ℕ → ℕ → List Asked → List ℕ
fields_added config b last [] = []
fields_added config b last (a ∷ xs) = frame_fields last a.clock a.frame (sent_reply config b a.clock a.frame) ++ fields_added config (left config b a) a.clock xs

-- "The clock is 0 until a tag 1."; the new rule is the first field (`opening_bytes`)
abbrev pub trace_of : Config → ℕ → ℕ → List Asked → List ℕ
trace_of config mode vbucket xs = opening_bytes mode vbucket ++ fields_added config (table_bytes (fresh 32 1 mode vbucket)) 0 xs

-- served under the new rule, by which force isn't taken
-- it rules out a recorder that tells a clock too late, or leaves one out, one that records an earlier frame's reply, and one that says the old rule or none
abbrev pub RecordedReplays : Config → Type 0
RecordedReplays config =
    config.forcing ≡ false → (b : List ℕ) (mode vbucket : ℕ) (xs : List Asked) → length b ≡ 42000 → 1 ≤ mode → mode ≤ 2 → vbucket < 65536
    → AllServed config (table_bytes (fresh 32 1 mode vbucket)) xs → length (trace_of config mode vbucket xs) ≤ 65536
    → replayed config b (trace_of config mode vbucket xs) ≡ record { answer = Replayed (length xs); table = left_by_all config (table_bytes (fresh 32 1 mode vbucket)) xs }

-- the box serves with more room than 1,302 bytes, and records what stands at the start of its reply area: the same answer, table and reply
abbrev pub RoomAlike : Config → Type 0
RoomAlike config =
    (b : List ℕ) (clock : ℕ) (s out : List ℕ) (status used len : ℕ) → Bytes b → 1302 ≤ length out → served config b clock s (length out) ≡ Done status used len
    → (served config b clock s 1302 ≡ Done status used len) × ((served_table config b clock s (length out) ≡ served_table config b clock s 1302) × (take len (served_reply config b clock s out) ≡ sent_reply config b clock s))
