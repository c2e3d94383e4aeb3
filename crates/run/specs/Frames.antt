-- For the code alone: frames one after another at the cursor, each by a call that may be serving's or a step's.
use Rattle.std.specs.Prelude.{ℕ, zero, suc, ◌+◌, ◌-◌, ◌≡◌, List, ◌++◌, length, take, drop}
use Rattle.engine.specs.declared.Config.{Config}
use Rattle.rows.specs.Table.{head_of}
use Rattle.serving.specs.Serve.{Served, Refused, Done, served_table, served_reply}
use Rattle.step.specs.Step.{Stepped, step_of}
use Rattle.tally.specs.Counts.{counted_of}
use Rattle.run.specs.Run.{Ran, Stand, seen, called_on}

-- what stands after the frames, and the last answer
pub record Framed : Type 0 where
  pub stand : Stand
  pub stop : Served

-- after a frame that was served
abbrev pub after_frame : Stand → Stepped → ℕ → ℕ → ℕ → Stand
after_frame x y status used len = record {
  table = y.table;
  reply = take x.filled x.reply ++ y.reply;
  tally = counted_of x.tally (Done status used len);
  at = x.at + used;
  filled = x.filled + len;
}

abbrev pub on_answer : Stand → Stepped → Served → (Stand → Framed) → Framed
on_answer x y (Refused n need) go = record { stand = x; stop = Refused n need }
on_answer x y (Done status used len) go = go (after_frame x y status used len)

-- at most so many frames more than one, each by this call
unfoldable pub frames_from : (Stand → Stepped) → ℕ → Stand → Framed
frames_from call zero x = on_answer x (call x) (call x).answer (λ z. record { stand = z; stop = (call x).answer })
frames_from call (suc n) x = on_answer x (call x) (call x).answer (λ z. frames_from call n z)

-- a step at the cursor, on any memory, into the reply area past the replies
abbrev pub step_at : Config → ℕ → List ℕ → Stand → Stepped
step_at config clock run x = step_of config x.table (head_of x.table) clock (seen x.at run) (drop x.filled x.reply)

-- serving at the cursor
abbrev pub serve_at : Config → ℕ → List ℕ → Stand → Stepped
serve_at config clock run x = record {
  answer = called_on config clock run x;
  table = served_table config x.table clock (seen x.at run) (length x.reply - x.filled);
  reply = served_reply config x.table clock (seen x.at run) (drop x.filled x.reply);
}

-- what a call leaves that goes by such frames
pub record Leaves (f : Framed) (r : Ran) (b out : List ℕ) : Type 0 where
  pub ran : r ≡ record { cursor = record { at = f.stand.at }; filled = f.stand.filled; tally = f.stand.tally; stop = f.stop }
  pub table : b ≡ f.stand.table
  pub reply : out ≡ f.stand.reply
