-- The version of the calls for C and Rust, and what the one that serves one request answers and leaves.
use Rattle.std.specs.Prelude.{ℕ, ◌+◌, ◌*◌, ◌≡◌, List, length}
use Rattle.engine.specs.declared.Config.{Config}
use Rattle.serving.specs.Serve.{served, served_table, served_reply}
use Rattle.tally.specs.declared.Tally.{Tally}
use Rattle.tally.specs.Counts.{counted_of}
use Rattle.answers.specs.declared.ServedAnswer.{ServedAnswer}
use Rattle.answers.specs.Answers.{served_answer}

-- a call on table memory b at a clock, with received bytes s, reply area out and tally t: its answer a, and all three as it leaves them
pub record ServesOne (config : Config) (b : List ℕ) (clock : ℕ) (s out : List ℕ) (t : Tally) (a : ServedAnswer) (b' out' : List ℕ) (t' : Tally) : Type 0 where
  pub answer : a ≡ served_answer (served config b clock s (length out))
  pub table : b' ≡ served_table config b clock s (length out)
  pub reply : out' ≡ served_reply config b clock s out
  pub tally : t' ≡ counted_of t (served config b clock s (length out))

-- CONTACTS_VERSION of include/contacts.h: the number of the version 4.10.0
abbrev pub version : ℕ
version = 4 * 10000 + 10 * 100 + 0
