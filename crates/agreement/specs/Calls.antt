-- Order 7: any list of calls (make, serve, run, read, purge, activate) on one table memory, with the tally that they share.
use Rattle.std.specs.Prelude.{ℕ, ◌^◌, ◌<◌, List, [], ◌∷◌, length}
use Rattle.octets.specs.Parts.{Bytes, part}
use Rattle.engine.specs.declared.Config.{Config}
use Rattle.owning.specs.Owner.{Activated, Purged, Document, Damaged, Missing, Expired, Live, made, make_outcome, read_of, purge_of, activate_of}
use Rattle.serving.specs.Serve.{Served, served_reply}
use Rattle.tally.specs.declared.Tally.{Tally}
use Rattle.tally.specs.Counts.{counted_of}
use Rattle.run.specs.Run.{Ran, Stand, begun, run_end, ran_of}
use Rattle.promises.specs.Calls.{Call, served_by}
use Rattle.promises.specs.Clock.{TableCall, Serve, Purge, Read, Activate, Given, table_called}

-- a table made anew in the memory, with its rows, state, mode and vbucket; a run of frames, as a call whose received bytes are the run; or one of the others
pub data AnyCall : Type 0 where
  Make : ℕ → ℕ → ℕ → ℕ → AnyCall
  Run : Call → AnyCall
  One : TableCall → AnyCall

-- the table's memory, and the tally lent with it
pub record Owned : Type 0 where
  pub table : List ℕ
  pub tally : Tally

-- a run on it
abbrev pub run_on : Config → Owned → Call → Stand
run_on config o c = run_end config c.clock c.received (begun o.table c.reply o.tally)

-- after a call
abbrev pub tallied : Config → Owned → TableCall → Tally
tallied config o (Serve c) = counted_of o.tally (served_by config o.table c)
tallied config o (Purge clock bound) = o.tally
tallied config o (Read clock key) = o.tally
tallied config o Activate = o.tally

abbrev pub owned_after : Config → Owned → AnyCall → Owned
owned_after config o (Make n state mode vbucket) = record { table = made o.table n state mode vbucket; tally = o.tally }
owned_after config o (Run c) = record { table = (run_on config o c).table; tally = (run_on config o c).tally }
owned_after config o (One x) = record { table = table_called config o.table x; tally = tallied config o x }

-- ---- what a call answers, "row places aside"
-- a read shows where its value stands; of two tables that hold the same documents the bytes there are the same
abbrev pub placeless : Document → Document
placeless Damaged = Damaged
placeless Missing = Missing
placeless (Expired s) = Expired s
placeless (Live numbers left at len) = Live numbers left 0 len

abbrev pub bytes_shown : List ℕ → Document → List ℕ
bytes_shown b Damaged = []
bytes_shown b Missing = []
bytes_shown b (Expired s) = []
bytes_shown b (Live numbers left at len) = part b at len

-- an outcome; a run's answer and a call's, each with the reply area as it is left; a document without its place, with the bytes of its value; what was freed; whether the table is active
pub data AnyAnswer : Type 0 where
  Made : ℕ → AnyAnswer
  RanBy : Ran → List ℕ → AnyAnswer
  ServedBy : Served → List ℕ → AnyAnswer
  Shown : Document → List ℕ → AnyAnswer
  Freeing : Purged → AnyAnswer
  Activating : Activated → AnyAnswer

abbrev pub one_answer : Config → List ℕ → TableCall → AnyAnswer
one_answer config b (Serve c) = ServedBy (served_by config b c) (served_reply config b c.clock c.received c.reply)
one_answer config b (Purge clock bound) = Freeing (purge_of config b clock bound)
one_answer config b (Read clock key) = Shown (placeless (read_of config b clock key)) (bytes_shown b (read_of config b clock key))
one_answer config b Activate = Activating (activate_of config b)

abbrev pub any_answer : Config → Owned → AnyCall → AnyAnswer
any_answer config o (Make n state mode vbucket) = Made (make_outcome (length o.table) n state mode)
any_answer config o (Run c) = RanBy (ran_of config c.clock c.received (run_on config o c)) (run_on config o c).reply
any_answer config o (One x) = one_answer config o.table x

-- ---- lists of calls, each on what the one before left
abbrev pub owned_after_all : Config → Owned → List AnyCall → Owned
owned_after_all config o [] = o
owned_after_all config o (x ∷ xs) = owned_after_all config (owned_after config o x) xs

abbrev pub any_answers : Config → Owned → List AnyCall → List AnyAnswer
any_answers config o [] = []
any_answers config o (x ∷ xs) = any_answer config o x ∷ any_answers config (owned_after config o x) xs

-- bytes, a clock of 32 bits and a vbucket of 16, as every call has them
abbrev pub GivenAny : AnyCall → Type 0
GivenAny (Make n state mode vbucket) = vbucket < 65536
GivenAny (Run c) = Bytes c.received × (c.clock < 2 ^ 32)
GivenAny (One x) = Given x

abbrev pub AllGivenAny : List AnyCall → Type 0
AllGivenAny [] = Unit {0}
AllGivenAny (x ∷ xs) = GivenAny x × AllGivenAny xs
