-- What one call of serving answers and leaves: serve, the cursor and the calls for C have it as their contract.
use Rattle.std.specs.Prelude.{ℕ, ◌≡◌, List, length}
use Rattle.octets.specs.Parts.{written}
use Rattle.engine.specs.declared.Config.{Config}
use Rattle.header.specs.declared.Header.{Header}
use Rattle.request.specs.Reading.{Whole}
use Rattle.serving.specs.Serve.{Served, answer_by, frame_table, frame_reply, served, served_table, served_reply}

-- a call on table memory b, of the engine that it is for, at a clock, with received bytes s and reply area out: its answer r, and both as it leaves them
pub record Serves (config : Config) (b : List ℕ) (clock : ℕ) (s out : List ℕ) (r : Served) (b' out' : List ℕ) : Type 0 where
  pub answer : r ≡ served config b clock s (length out)
  pub table : b' ≡ served_table config b clock s (length out)
  pub reply : out' ≡ served_reply config b clock s out

-- a call that found no outcome against it, with the header of its whole frame
pub record ServesFrame (config : Config) (b : List ℕ) (clock : ℕ) (s : List ℕ) (h : Header) (out : List ℕ) (r : Served) (b' out' : List ℕ) : Type 0 where
  pub answer : r ≡ answer_by config b clock s (Whole h)
  pub table : b' ≡ frame_table config b clock s h
  pub reply : out' ≡ written out 0 (frame_reply config b clock s h)
