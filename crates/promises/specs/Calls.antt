-- Lists of serving calls, each on the table as the one before left it.
use Rattle.std.specs.Prelude.{ℕ, List, [], ◌∷◌, map, length}
use Rattle.engine.specs.declared.Config.{Config}
use Rattle.serving.specs.Serve.{Served, served_outcome, served_status, served, served_table}

-- a clock, received bytes and a reply area as it was before
pub record Call : Type 0 where
  pub clock : ℕ
  pub received : List ℕ
  pub reply : List ℕ

abbrev pub served_by : Config → List ℕ → Call → Served
served_by config b c = served config b c.clock c.received (length c.reply)

abbrev pub table_served : Config → List ℕ → Call → List ℕ
table_served config b c = served_table config b c.clock c.received (length c.reply)

abbrev pub bytes_after : Config → List ℕ → List Call → List ℕ
bytes_after config b [] = b
bytes_after config b (c ∷ cs) = bytes_after config (table_served config b c) cs

abbrev pub answers : Config → List ℕ → List Call → List Served
answers config b [] = []
answers config b (c ∷ cs) = served_by config b c ∷ answers config (table_served config b c) cs

abbrev pub call_outcomes : Config → List ℕ → List Call → List ℕ
call_outcomes config b cs = map served_outcome (answers config b cs)

abbrev pub call_statuses : Config → List ℕ → List Call → List ℕ
call_statuses config b cs = map served_status (answers config b cs)
