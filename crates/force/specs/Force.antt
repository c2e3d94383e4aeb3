-- Order 9 on bytes: "Forced writes made fleet copies disagree for good. A with-meta request with option 0x01 now gets 0x83, tested right after the 0x04 rules, in the reader too." Proved in proofs/Force.antt.
use Rattle.std.specs.Prelude.{ℕ, ◌%◌, ◌≤◌, ◌≡◌, Bool, true, false, ◌&&◌, List, length, take, leb, eqb}
use Rattle.octets.specs.Parts.{Bytes}
use Rattle.octets.specs.BigEndian.{num}
use Rattle.shape.specs.Shapes.{among}
use Rattle.header.specs.Header.{header_of}
use Rattle.request.specs.Reading.{Status, Whole, gate_of, reading}
use Rattle.rows.specs.Table.{table_of, table_at, clock_at}
use Rattle.engine.specs.declared.Config.{Config}
use Rattle.engine.specs.declared.EngineKind.{EngineKind}
use Rattle.engines.specs.Damage.{sound_by}
use Rattle.serving.specs.Serve.{Done, reaches_decision, served, served_table, served_reply}
use Rattle.serving.specs.Statuses.{statuses}
use Rattle.promises.specs.Kept.{clock_raised}
use Rattle.promises.specs.Expiry.{opcode, extras_in, with_metas, Passes, Answers}
use Rattle.promises.specs.Replies.{writers}

-- a with-meta frame with option 0x01, in its bytes and not by the definition that decides it: extras of 28 and 30 bytes have the options in the four bytes from 24 on
abbrev pub asks_force : List ℕ → Bool
asks_force s = among (opcode s) with_metas && (leb 28 (length (extras_in s)) && eqb (num (extras_in s) 24 4 % 2) 1)

-- a whole frame on an undamaged table, with room for a reply
pub record Comes (config : Config) (b s : List ℕ) (room : ℕ) : Type 0 where
  pub undamaged : sound_by config b ≡ true
  pub roomy : 1302 ≤ room
  pub whole : gate_of s ≡ Whole (header_of s)

-- ---- the new rule
-- where its opcode is built and no 0x04 applies, one of mode or clock neither, it is 0x83, whatever its value's size, its vbucket and the table's state. It rules out 0x83 tested after 0x03 or 0x07
abbrev pub ForceRefused : Config → Type 0
ForceRefused config =
    (b : List ℕ) (clock : ℕ) (s : List ℕ) (room : ℕ) → config.forcing ≡ false → asks_force s ≡ true → Comes config b s room
    → Passes (take 5 (statuses config (table_at (table_of b) clock) (clock_at (table_of b) clock) s (header_of s)))
    → Answers config b clock s room 0x83

-- and stores nothing, whatever its status
abbrev pub ForceStoresNothing : Config → Type 0
ForceStoresNothing config =
    (b : List ℕ) (clock : ℕ) (s : List ℕ) (room status used len : ℕ) → Bytes b → config.forcing ≡ false → asks_force s ≡ true
    → served config b clock s room ≡ Done status used len → (status ≡ 0 → ⊥) × (served_table config b clock s room ≡ clock_raised b clock)

-- "in the reader too": where none of its 0x04 rules applies
abbrev pub ForceUnread : Type 0
ForceUnread = (s : List ℕ) → gate_of s ≡ Whole (header_of s) → asks_force s ≡ true → reaches_decision s (header_of s) ≡ true → reading s ≡ Status 0x83

-- ---- "Replica and pending tables now take no write": nor does a dead one, by either rule. It rules out 01's exception
abbrev pub StandbyTakesNone : Config → Type 0
StandbyTakesNone config =
    (b : List ℕ) (clock : ℕ) (s : List ℕ) (room status used len : ℕ) → Bytes b → ((table_of b).head.state ≡ 1 → ⊥) → among (opcode s) writers ≡ true
    → served config b clock s room ≡ Done status used len → (status ≡ 0 → ⊥) × (served_table config b clock s room ≡ clock_raised b clock)

-- ---- the old rule, "which differs for option 0x01 alone": on any memory, by either engine
abbrev pub ruled : EngineKind → Bool → Config
ruled engine forcing = record { engine = engine; forcing = forcing }

pub record ServedSame (config other : Config) (b : List ℕ) (clock : ℕ) (s out : List ℕ) : Type 0 where
  pub answer : served config b clock s (length out) ≡ served other b clock s (length out)
  pub table : served_table config b clock s (length out) ≡ served_table other b clock s (length out)
  pub reply : served_reply config b clock s out ≡ served_reply other b clock s out

abbrev pub RulesAlike : Type 0
RulesAlike = (engine : EngineKind) (b : List ℕ) (clock : ℕ) (s out : List ℕ) → asks_force s ≡ false → ServedSame (ruled engine true) (ruled engine false) b clock s out
