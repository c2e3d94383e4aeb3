-- What holds of tables whichever engine keeps their rows. Proved in proofs/.
use Rattle.std.specs.Prelude.{ℕ, ◌^◌, ◌≤◌, ◌<◌, ◌≡◌, Bool, true, List}
use Rattle.octets.specs.Parts.{Bytes, written}
use Rattle.octets.specs.BigEndian.{bytes_of}
use Rattle.document.specs.Documents.{Key, Doc}
use Rattle.document.specs.declared.Head.{Head}
use Rattle.document.specs.Head.{stated, marked}
use Rattle.engine.specs.declared.Config.{Config}
use Rattle.engine.specs.Engine.{Laws, Room}
use Rattle.engine.specs.Alike.{Alike, StaysAlike}
use Rattle.rows.specs.Table.{Table, table_of, table_at, clock_at, head_bytes, table_bytes, fresh}
use Rattle.rows.specs.Good.{EntryGood}
use Rattle.plain.specs.Damage.{sound}
use Rattle.plain.specs.Claims.{Good}
use Rattle.engines.specs.Engines.{engine_of}
use Rattle.engines.specs.Damage.{sound_by}

-- a good table whose rows keep the engine's rule
pub record GoodBy (config : Config) (t : Table) : Type 0 where
  pub good : Good t
  pub kept : (engine_of config).Good t.rows

abbrev pub EnginesLaws : Type 0
EnginesLaws = (config : Config) → Laws (engine_of config)

-- rows that hold the same documents stay alike, whichever engines keep them
abbrev pub EnginesAlike : Type 0
EnginesAlike = (config other : Config) → StaysAlike (engine_of config) (engine_of other)

abbrev pub FreshAlikeBy : Type 0
FreshAlikeBy = (config other : Config) (n state mode vbucket : ℕ) → Alike (engine_of config) (engine_of other) (fresh n state mode vbucket).rows (fresh n state mode vbucket).rows

-- what 01 calls damaged no engine calls sound
abbrev pub SoundPlain : Type 0
SoundPlain = (config : Config) (b : List ℕ) → sound_by config b ≡ true → sound b ≡ true

-- sound bytes are the bytes of a good table
abbrev pub SoundGoodBy : Type 0
SoundGoodBy = (config : Config) (b : List ℕ) → Bytes b → sound_by config b ≡ true → (table_bytes (table_of b) ≡ b) × GoodBy config (table_of b)

-- a good table's bytes are sound, and say that table
abbrev pub GoodSoundBy : Type 0
GoodSoundBy = (config : Config) (t : Table) → GoodBy config t → (sound_by config (table_bytes t) ≡ true) × (table_of (table_bytes t) ≡ t)

-- every change that a table takes keeps it good
abbrev pub PutGoodBy : Type 0
PutGoodBy =
    (config : Config) (t : Table) (key : Key) (d : Doc) → GoodBy config t → EntryGood t.head.mark.0 (record { key = key; doc = d }) → Room (engine_of config) t.rows key
    → GoodBy config (record { head = t.head; rows = (engine_of config).put t.rows key d })

abbrev pub PurgeGoodBy : Type 0
PurgeGoodBy = (config : Config) (t : Table) (p : Doc → Bool) → GoodBy config t → GoodBy config (record { head = t.head; rows = (engine_of config).purge t.rows p })

abbrev pub FreshGoodBy : Type 0
FreshGoodBy =
    (config : Config) (n state mode vbucket : ℕ) → 1 ≤ n → n ≤ 256 → (1 ≤ state) × (state ≤ 4) → (1 ≤ mode) × (mode ≤ 2) → vbucket < 65536
    → GoodBy config (fresh n state mode vbucket)

-- a higher mark, any clock, and any other state
abbrev pub HeadGoodBy : Type 0
HeadGoodBy = (config : Config) (t : Table) (m : ℕ) → GoodBy config t → t.head.mark.0 ≤ m → m < 2 ^ 64 → GoodBy config (record { head = marked t.head m; rows = t.rows })

abbrev pub ClockGoodBy : Type 0
ClockGoodBy = (config : Config) (t : Table) (clock : ℕ) → GoodBy config t → clock < 2 ^ 32 → GoodBy config (table_at t clock)

abbrev pub StateGoodBy : Type 0
StateGoodBy = (config : Config) (t : Table) (state : ℕ) → GoodBy config t → (1 ≤ state) × (state ≤ 4) → GoodBy config (record { head = stated t.head state; rows = t.rows })

-- the head is written apart, and changes no row; order 2: the kept clock's four bytes, written alone; order 9: the state's byte, written alone
abbrev pub HeadPut : Type 0
HeadPut = (t : Table) (h : Head) → written (table_bytes t) 0 (head_bytes h) ≡ table_bytes (record { head = h; rows = t.rows })

abbrev pub ClockPut : Type 0
ClockPut = (t : Table) (clock : ℕ) → written (table_bytes t) 4 (bytes_of 4 (clock_at t clock)) ≡ table_bytes (table_at t clock)

abbrev pub StatePut : Type 0
StatePut = (t : Table) (state : ℕ) → written (table_bytes t) 0 (bytes_of 1 state) ≡ table_bytes (record { head = stated t.head state; rows = t.rows })
