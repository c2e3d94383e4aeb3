-- What is claimed of tables: sound bytes are the bytes of a good table and the other way round, and every change that a table takes keeps it good. Proved in proofs/.
use Rattle.std.specs.Prelude.{ℕ, ◌^◌, ◌≤◌, ◌<◌, ◌≡◌, List, Bool, true, length}
use Rattle.octets.specs.Parts.{Bytes}
use Rattle.document.specs.Documents.{Doc}
use Rattle.rows.specs.Good.{AllGood}
use Rattle.rows.specs.Table.{Table, table_of, table_bytes, fresh}
use Rattle.plain.specs.Damage.{sound}
use Rattle.plain.specs.Plain.{Distinct, purge_rows}

pub record Good (t : Table) : Type 0 where
  pub least : 1 ≤ length t.rows
  pub most : length t.rows ≤ 256
  pub state : (1 ≤ t.head.state) × (t.head.state ≤ 4)
  pub mode : (1 ≤ t.head.mode) × (t.head.mode ≤ 2)
  pub vbucket : t.head.vbucket < 65536
  pub clock : t.head.clock < 2 ^ 32
  pub mark : t.head.mark.0 < 2 ^ 64
  pub rows : AllGood t.head.mark.0 t.rows
  pub keys : Distinct t.rows

-- sound bytes are the bytes of a good table
abbrev pub SoundGood : Type 0
SoundGood = (b : List ℕ) → Bytes b → sound b ≡ true → (table_bytes (table_of b) ≡ b) × Good (table_of b)

-- a good table's bytes are sound, and say that table
abbrev pub GoodSound : Type 0
GoodSound = (t : Table) → Good t → (sound (table_bytes t) ≡ true) × (table_of (table_bytes t) ≡ t)

-- purging keeps a table good, whatever it picks
abbrev pub PurgeGood : Type 0
PurgeGood = (t : Table) (p : Doc → Bool) → Good t → Good (record { head = t.head; rows = purge_rows t.rows p })

abbrev pub FreshGood : Type 0
FreshGood =
    (n state mode vbucket : ℕ) → 1 ≤ n → n ≤ 256 → (1 ≤ state) × (state ≤ 4) → (1 ≤ mode) × (mode ≤ 2) → vbucket < 65536
    → Good (fresh n state mode vbucket)
