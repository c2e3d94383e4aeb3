-- What the owner's calls mean on a sound table. Proved in proofs/Tells.antt.
use Rattle.std.specs.Prelude.{ℕ, ◌+◌, ◌^◌, ◌≤◌, ◌<◌, ◌≡◌, List, true, false, cond, ◌⊎◌, length, ℤ, pos, ◌-ℤ◌, Option, Some, None}
use Rattle.std.specs.Int.Signed.{le_z}
use Rattle.octets.specs.Parts.{Bytes, part}
use Rattle.document.specs.Documents.{Key, Doc}
use Rattle.numbers.specs.Expiry.{seconds_left}
use Rattle.document.specs.Stored.{stored_of, is_document, live}
use Rattle.rows.specs.Table.{table_of, clock_at}
use Rattle.rows.specs.Find.{find_row}
use Rattle.engine.specs.declared.Config.{Config}
use Rattle.engines.specs.Damage.{sound_by}
use Rattle.owning.specs.Owner.{Missing, Expired, Live, read_of, purged_bytes, made, make_outcome}

-- the live document of a key, at the later of the kept clock and the call's
abbrev pub live_doc : List ℕ → ℕ → Key → Option Doc
live_doc b clock key = cond (live (stored_of (find_row (table_of b).rows key)) (clock_at (table_of b) clock)) (find_row (table_of b).rows key) None

-- reading shows a document: its numbers, the time that is left to it, and its value as a part of the table memory
pub record Shows (config : Config) (b : List ℕ) (clock : ℕ) (key : Key) (d : Doc) : Type 0 where
  pub at : ℕ
  pub len : ℕ
  pub answer : read_of config b clock key ≡ Live d.numbers (seconds_left d.numbers.expiry (clock_at (table_of b) clock)) at len
  pub inside : at + len ≤ length b
  pub value : part b at len ≡ d.value

abbrev pub ReadShows : Type 0
ReadShows =
    (config : Config) (b : List ℕ) (clock : ℕ) (key : Key) (d : Doc) → Bytes b → sound_by config b ≡ true → live_doc b clock key ≡ Some d
    → Shows config b clock key d

-- no row, or a tombstone
abbrev pub ReadMisses : Type 0
ReadMisses =
    (config : Config) (b : List ℕ) (clock : ℕ) (key : Key) → Bytes b → sound_by config b ≡ true
    → is_document (stored_of (find_row (table_of b).rows key)) ≡ false → read_of config b clock key ≡ Missing

-- order 5, an expired document: the seconds left are shown, and they are zero or less
pub record ShowsPast (config : Config) (b : List ℕ) (clock : ℕ) (key : Key) (d : Doc) : Type 0 where
  pub seconds : ℤ
  pub answer : read_of config b clock key ≡ Expired seconds
  pub difference : seconds ≡ pos d.numbers.expiry -ℤ pos (clock_at (table_of b) clock)
  pub past : le_z seconds (pos 0) ≡ true

abbrev pub ReadExpired : Type 0
ReadExpired =
    (config : Config) (b : List ℕ) (clock : ℕ) (key : Key) (d : Doc) → Bytes b → sound_by config b ≡ true → find_row (table_of b).rows key ≡ Some d
    → d.tomb ≡ false → live (stored_of (Some d)) (clock_at (table_of b) clock) ≡ false → ShowsPast config b clock key d

-- "so for a key of 0 or over 250 bytes too"
abbrev pub NoSuchKey : Type 0
NoSuchKey =
    (config : Config) (b : List ℕ) (clock : ℕ) (key : Key) → Bytes b → sound_by config b ≡ true → (length key ≡ 0) ⊎ (250 < length key)
    → read_of config b clock key ≡ Missing

-- a purged table is sound, and so is one that was made
abbrev pub PurgeSound : Type 0
PurgeSound =
    (config : Config) (b : List ℕ) (clock bound : ℕ) → Bytes b → clock < 2 ^ 32 → sound_by config b ≡ true
    → sound_by config (purged_bytes config b clock bound) ≡ true

abbrev pub MakeSound : Type 0
MakeSound =
    (config : Config) (b : List ℕ) (n state mode vbucket : ℕ) → vbucket < 65536 → make_outcome (length b) n state mode ≡ 0
    → sound_by config (made b n state mode vbucket) ≡ true
