-- A call of serving that is counted.
use Rattle.std.specs.Prelude.{ℕ, ◌≡◌, List}
use Rattle.engine.specs.declared.Config.{Config}
use Rattle.serving.specs.Serve.{Served}
use Rattle.serving.specs.Serves.{Serves}
use Rattle.tally.specs.declared.Tally.{Tally}
use Rattle.tally.specs.Counts.{counted_of}

-- answer, table and reply, and the tally t as the call leaves it
pub record ServesCounted (config : Config) (b : List ℕ) (clock : ℕ) (s out : List ℕ) (t : Tally) (r : Served) (b' out' : List ℕ) (t' : Tally) : Type 0 where
  pub serves : Serves config b clock s out r b' out'
  pub tally : t' ≡ counted_of t r
