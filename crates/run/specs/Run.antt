-- "A cursor over a run of received frames is handed back advanced by what was consumed. One past the end sees no bytes."
use Rattle.std.specs.Prelude.{ℕ, zero, suc, ◌+◌, ◌-◌, List, ◌++◌, length, take, drop}
use Rattle.engine.specs.declared.Config.{Config}
use Rattle.serving.specs.Serve.{served_told, numbers_told, Served, Refused, Done, served_used, served, served_table, served_reply}
use Rattle.tally.specs.declared.Tally.{Tally}
use Rattle.tally.specs.Counts.{counted_of}
use Rattle.run.specs.declared.Cursor.{Cursor}
use Rattle.run.specs.declared.Moved.{Moved as MovedCursor}
use Rattle.run.specs.declared.Ran.{Ran as RanFrames}
use Rattle.run.specs.declared.RanNumbers.{RanNumbers}

-- what a cursor sees of a run
abbrev pub seen : ℕ → List ℕ → List ℕ
seen at run = drop at run

-- the cursor after a call, and its answer
pub record Moved : Type 0 where
  pub cursor : Cursor
  pub served : Served

-- past the last frame served, the bytes of all replies, the tally, and the last answer
pub record Ran : Type 0 where
  pub cursor : Cursor
  pub filled : ℕ
  pub tally : Tally
  pub stop : Served

-- what the code answers, in these
abbrev pub moved_told : MovedCursor → Moved
moved_told m = record { cursor = m.cursor; served = served_told m.served }

abbrev pub ran_told : RanFrames → Ran
ran_told r = record { cursor = r.cursor; filled = r.filled; tally = r.tally; stop = served_told r.stop }

-- one whose last answer stands in numbers
abbrev pub ran_numbers_told : RanNumbers → Ran
ran_numbers_told r = record { cursor = r.cursor; filled = r.filled; tally = r.tally; stop = numbers_told r.stop }

-- "handed back advanced by what was consumed"
unfoldable pub moved_by : ℕ → Served → Moved
moved_by at r = record { cursor = record { at = at + served_used r }; served = r }

-- ---- a run: one frame after another at the cursor, each reply after those before it, until a call is refused
-- what stands between two calls
pub record Stand : Type 0 where
  pub table : List ℕ
  pub reply : List ℕ
  pub tally : Tally
  pub at : ℕ
  pub filled : ℕ

abbrev pub called_on : Config → ℕ → List ℕ → Stand → Served
called_on config clock run x = served config x.table clock (seen x.at run) (length x.reply - x.filled)

-- after one more call that was not refused
abbrev pub further : Config → ℕ → List ℕ → Stand → ℕ → ℕ → ℕ → Stand
further config clock run x status used len = record {
  table = served_table config x.table clock (seen x.at run) (length x.reply - x.filled);
  reply = take x.filled x.reply ++ served_reply config x.table clock (seen x.at run) (drop x.filled x.reply);
  tally = counted_of x.tally (Done status used len);
  at = x.at + used;
  filled = x.filled + len;
}

abbrev pub on_done : Served → Stand → (ℕ → ℕ → ℕ → Stand) → Stand
on_done (Refused n need) x go = x
on_done (Done status used len) x go = go status used len

-- after at most n calls that were not refused
unfoldable pub stand_after : Config → ℕ → ℕ → List ℕ → Stand → Stand
stand_after config zero clock run x = x
stand_after config (suc n) clock run x = on_done (called_on config clock run x) x (λ status used len. stand_after config n clock run (further config clock run x status used len))

-- a frame takes 24 bytes at least, so a run has no more frames than bytes, and the call after the last of them is refused
unfoldable pub run_end : Config → ℕ → List ℕ → Stand → Stand
unfolding stand_after
run_end config clock run x = stand_after config (length run) clock run x

abbrev pub begun : List ℕ → List ℕ → Tally → Stand
begun b out t = record { table = b; reply = out; tally = t; at = 0; filled = 0 }

unfoldable pub ran_of : Config → ℕ → List ℕ → Stand → Ran
ran_of config clock run x = record { cursor = record { at = x.at }; filled = x.filled; tally = x.tally; stop = called_on config clock run x }
