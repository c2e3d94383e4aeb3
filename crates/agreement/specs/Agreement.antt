-- Order 7: "Keep the old table as the plain engine, and prove that any list of calls, made alike on both from fresh tables made alike, gives the same answers, replies, tallies, documents, tombstones, mark and clock, row places aside." Proved in proofs/.
use Rattle.std.specs.Prelude.{ℕ, ◌≤◌, ◌<◌, ◌≡◌, true, List, length}
use Rattle.document.specs.Documents.{Key}
use Rattle.engine.specs.declared.Config.{Config}
use Rattle.rows.specs.Table.{table_of, table_bytes, fresh}
use Rattle.rows.specs.Find.{free_rows}
use Rattle.tally.specs.declared.Tally.{Tally}
use Rattle.engines.specs.Damage.{sound_by}
use Rattle.promises.specs.Merge.{doc_at}
use Rattle.agreement.specs.Calls.{AnyCall, Owned, AllGivenAny, any_answers, owned_after_all}

-- tables that can't be told apart but by the places of their rows: the same documents and tombstones, the same head (state, mode, vbucket, clock and mark), as many rows, as many of them free
pub record SameTable (config other : Config) (b c : List ℕ) : Type 0 where
  pub documents : (k : Key) → doc_at b k ≡ doc_at c k
  pub head : (table_of b).head ≡ (table_of c).head
  pub size : length b ≡ length c
  pub free : free_rows (table_of b).rows ≡ free_rows (table_of c).rows
  pub undamaged : sound_by config b ≡ true
  pub other-undamaged : sound_by other c ≡ true

pub record Agrees (config other : Config) (o : Owned) (xs : List AnyCall) : Type 0 where
  pub answers : any_answers config o xs ≡ any_answers other o xs
  pub tally : (owned_after_all config o xs).tally ≡ (owned_after_all other o xs).tally
  pub tables : SameTable config other (owned_after_all config o xs).table (owned_after_all other o xs).table

abbrev pub EnginesAgree : Type 0
EnginesAgree =
    (config other : Config) → config.forcing ≡ other.forcing → (n state mode vbucket : ℕ) (t : Tally) (xs : List AnyCall) → 1 ≤ n → n ≤ 256 → (1 ≤ state) × (state ≤ 4) → (1 ≤ mode) × (mode ≤ 2) → vbucket < 65536
    → AllGivenAny xs → Agrees config other (record { table = table_bytes (fresh n state mode vbucket); tally = t }) xs
