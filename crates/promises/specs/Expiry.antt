-- "Expiry holds in every command", on bytes. When a document is live is said here in 01's words and numbers, and not by the definitions that decide it: a store that decides it otherwise, in one command or in all, doesn't meet these. Order 2: the clock is the later of the kept one and the call's. Proved in proofs/Dead.antt, Counting.antt, Joining.antt, Buried.antt and Alive.antt.
use Rattle.std.specs.Prelude.{ℕ, ◌+◌, ◌/◌, ◌%◌, ◌^◌, ◌≤◌, ◌<◌, ◌≡◌, Bool, true, false, not, cond, ◌&&◌, ◌||◌, List, [], ◌∷◌, ◌++◌, ◌⊎◌, length, take, eqb, pos, ◌-ℤ◌, Option, Some, None, ℤ}
use Rattle.engine.specs.declared.Config.{Config}
use Rattle.octets.specs.Parts.{Bytes}
use Rattle.octets.specs.BigEndian.{num}
use Rattle.octets.specs.Compare.{same}
use Rattle.digits.specs.Decimal.{digits}
use Rattle.numbers.specs.Order.{greater}
use Rattle.document.specs.Documents.{Key, Doc}
use Rattle.shape.specs.Shapes.{among}
use Rattle.header.specs.Header.{header_of}
use Rattle.with_meta.specs.WithMeta.{with_meta}
use Rattle.request.specs.Reading.{Whole, gate_of, bytes_in, extras_span, key_span, value_span}
use Rattle.commands.specs.Rules.{Check}
use Rattle.rows.specs.Table.{table_of, table_at, clock_at, table_bytes}
use Rattle.engines.specs.Engines.{engine_of}
use Rattle.engines.specs.Damage.{sound_by}
use Rattle.owning.specs.Owner.{Document, Missing, Expired as Past, Live as Shown, read_of, read_status}
use Rattle.serving.specs.Serve.{Done, served, served_table, served_reply}
use Rattle.serving.specs.Statuses.{statuses}
use Rattle.promises.specs.Merge.{doc_at, mode_at}
use Rattle.promises.specs.Kept.{later_at, clock_raised, kept_by}

-- "A document is *expired* when its expiry is not 0 and the clock is at or past it."
pub record Expired (clock : ℕ) (d : Doc) : Type 0 where
  pub document : d.tomb ≡ false
  pub ends : d.numbers.expiry ≡ 0 → ⊥
  pub past : d.numbers.expiry ≤ clock

-- "It is *live* when it is a document and not expired."
pub record Live (clock : ℕ) (d : Doc) : Type 0 where
  pub document : d.tomb ≡ false
  pub unexpired : (d.numbers.expiry ≡ 0) ⊎ (clock < d.numbers.expiry)

-- no row, a tombstone, or an expired document
abbrev pub NotLive : ℕ → Option Doc → Type 0
NotLive clock None = Unit {0}
NotLive clock (Some d) = (d.tomb ≡ true) ⊎ Expired clock d

-- ---- frames
abbrev pub opcode : List ℕ → ℕ
opcode s = (header_of s).opcode

abbrev pub header_cas : List ℕ → ℕ
header_cas s = (header_of s).cas.0

abbrev pub extras_in : List ℕ → List ℕ
extras_in s = bytes_in s (extras_span (header_of s))

abbrev pub key_in : List ℕ → Key
key_in s = bytes_in s (key_span (header_of s))

-- the opcodes of each command with a key, loud and quiet
abbrev pub gets : List ℕ
gets = 0x00 ∷ 0x09 ∷ 0x0c ∷ 0x0d ∷ []

abbrev pub sets : List ℕ
sets = 0x01 ∷ 0x11 ∷ []

abbrev pub adds : List ℕ
adds = 0x02 ∷ 0x12 ∷ []

abbrev pub replaces : List ℕ
replaces = 0x03 ∷ 0x13 ∷ []

abbrev pub deletes : List ℕ
deletes = 0x04 ∷ 0x14 ∷ []

abbrev pub counters : List ℕ
counters = 0x05 ∷ 0x15 ∷ 0x06 ∷ 0x16 ∷ []

abbrev pub with_metas : List ℕ
with_metas = 0xa2 ∷ 0xa3 ∷ 0xa4 ∷ 0xa5 ∷ 0xa8 ∷ 0xa9 ∷ []

abbrev pub touches : List ℕ
touches = 0x1c ∷ 0x1d ∷ []

abbrev pub appends : List ℕ
appends = 0x0e ∷ 0x19 ∷ []

abbrev pub prepends : List ℕ
prepends = 0x0f ∷ 0x1a ∷ []

-- Append and Prepend have a status of their own, 0x05, where there is no live document
abbrev pub joins : List ℕ
joins = appends ++ prepends

-- all others
abbrev pub keyed : List ℕ
keyed = gets ++ (sets ++ (adds ++ (replaces ++ (deletes ++ (counters ++ (with_metas ++ touches))))))

-- a counter's number where it begins, and its expiry: "20 extras (delta, initial, expiry)"
abbrev pub initial_in : List ℕ → ℕ
initial_in s = num (extras_in s) 8 8

abbrev pub counter_expiry : List ℕ → ℕ
counter_expiry s = num (extras_in s) 16 4

-- a frame that needs a live document: any Get, Replace, Delete, Touch, Get-and-touch; any of these commands with a header CAS that isn't 0; a counter with expiry 0xffffffff
abbrev pub needs_live : List ℕ → Bool
needs_live s =
    among (opcode s) (gets ++ (replaces ++ (deletes ++ touches)))
    || ((among (opcode s) keyed && not (eqb (header_cas s) 0))
    || (among (opcode s) counters && eqb (counter_expiry s) 0xffffffff))

-- none of these fails
abbrev pub Passes : List Check → Type 0
Passes [] = Unit {0}
Passes (c ∷ cs) = (c.fails ≡ false) × Passes cs

-- a whole frame on an undamaged table, to which none of the statuses before 0x05 and 0x01 applies: 0x83, 0x81, 0x04 of form, of fields and by mode or clock, 0x83 of option 0x01, 0x03, 0x07
pub record Reaches (config : Config) (b : List ℕ) (clock : ℕ) (s : List ℕ) (room : ℕ) : Type 0 where
  pub bytes : Bytes b
  pub undamaged : sound_by config b ≡ true
  pub roomy : 1302 ≤ room
  pub whole : gate_of s ≡ Whole (header_of s)
  pub earlier : Passes (take 8 (statuses config (table_at (table_of b) clock) (clock_at (table_of b) clock) s (header_of s)))

-- the frame is served with this status
abbrev pub Answers : Config → List ℕ → ℕ → List ℕ → ℕ → ℕ → Type 0
Answers config b clock s room status = (len : ℕ) × (served config b clock s room ≡ Done status (24 + (header_of s).body) len)

-- the frame is not served with this status
abbrev pub Avoids : Config → List ℕ → ℕ → List ℕ → ℕ → ℕ → Type 0
Avoids config b clock s room status = (used len : ℕ) → served config b clock s room ≡ Done status used len → ⊥

-- ---- a key without a live document
-- what needs one is answered 0x01, and no table byte changes but the kept clock's
abbrev pub DeadIsMissing : Config → Type 0
DeadIsMissing config =
    (b : List ℕ) (clock : ℕ) (s : List ℕ) (room : ℕ) → Reaches config b clock s room → NotLive (later_at b clock) (doc_at b (key_in s)) → needs_live s ≡ true
    → Answers config b clock s room 0x01 × (served_table config b clock s room ≡ clock_raised b clock)

-- order 4, Append and Prepend: "not live is 0x05, whatever the header CAS"
abbrev pub DeadIsUnstored : Config → Type 0
DeadIsUnstored config =
    (b : List ℕ) (clock : ℕ) (s : List ℕ) (room : ℕ) → Reaches config b clock s room → NotLive (later_at b clock) (doc_at b (key_in s)) → among (opcode s) joins ≡ true
    → Answers config b clock s room 0x05 × (served_table config b clock s room ≡ clock_raised b clock)

-- Set and Add without a header CAS are not refused with 0x01 or 0x02
abbrev pub DeadIsWritten : Config → Type 0
DeadIsWritten config =
    (b : List ℕ) (clock : ℕ) (s : List ℕ) (room : ℕ) → NotLive (later_at b clock) (doc_at b (key_in s)) → among (opcode s) (sets ++ adds) ≡ true → header_cas s ≡ 0
    → Avoids config b clock s room 0x01 × Avoids config b clock s room 0x02

-- "Plain expiry: 0 never; 1 to 2,592,000 is added to the clock, 0x04 if that passes 2^32 - 1; above, absolute.": what is stored for an expiry that is given
pub record PlainExpiry (given clock stored : ℕ) : Type 0 where
  pub never : given ≡ 0 → stored ≡ 0
  pub added : 1 ≤ given → given ≤ 2592000 → (given + clock < 2 ^ 32) × (stored ≡ given + clock)
  pub absolute : 2592000 < given → stored ≡ given

-- a document that begins a count: "the initial number is stored, flags 0, expiry by the plain rule"
pub record BeginsAt (initial given clock : ℕ) (d : Doc) : Type 0 where
  pub document : d.tomb ≡ false
  pub value : d.value ≡ digits initial
  pub flags : d.numbers.flags ≡ 0
  pub expiry : PlainExpiry given clock d.numbers.expiry

-- a counter without a header CAS begins at its initial number, and isn't refused with 0x01, 0x02 or 0x06
pub record CountsAnew (config : Config) (b : List ℕ) (clock : ℕ) (s : List ℕ) (room : ℕ) : Type 0 where
  pub found : Avoids config b clock s room 0x01
  pub free : Avoids config b clock s room 0x02
  pub number : Avoids config b clock s room 0x06
  pub stored : Answers config b clock s room 0 → (d : Doc) × ((doc_at (served_table config b clock s room) (key_in s) ≡ Some d) × BeginsAt (initial_in s) (counter_expiry s) (later_at b clock) d)

abbrev pub DeadCounts : Config → Type 0
DeadCounts config =
    (b : List ℕ) (clock : ℕ) (s : List ℕ) (room : ℕ) → Bytes b → Bytes s → clock < 2 ^ 32 → NotLive (later_at b clock) (doc_at b (key_in s)) → among (opcode s) counters ≡ true
    → header_cas s ≡ 0 → (counter_expiry s ≡ 0xffffffff → ⊥) → CountsAnew config b clock s room

-- ---- the expiry of a Set, an Add or a Replace: "8 extras (flags, expiry)"
abbrev pub written_expiry : List ℕ → ℕ
written_expiry s = num (extras_in s) 4 4

-- one with status 0 stores it by the plain rule, at the later of the kept clock and the call's
abbrev pub WritesUntil : Config → Type 0
WritesUntil config =
    (b : List ℕ) (clock : ℕ) (s : List ℕ) (room : ℕ) → Bytes b → Bytes s → clock < 2 ^ 32 → among (opcode s) (sets ++ (adds ++ replaces)) ≡ true
    → Answers config b clock s room 0
    → (d : Doc) × ((doc_at (served_table config b clock s room) (key_in s) ≡ Some d) × PlainExpiry (written_expiry s) (later_at b clock) d.numbers.expiry)

-- ---- an expired document
-- the tombstone with its revision and CAS: "A tombstone has no value, flags 0, expiry 0."
abbrev pub tombstone_of : Doc → Doc
tombstone_of d = record { tomb = true; value = []; numbers = record { flags = 0; expiry = 0; revision = d.numbers.revision; cas = d.numbers.cas } }

-- the table that has that tombstone in its row
abbrev pub buried : Config → List ℕ → Key → Doc → List ℕ
buried config b k d = table_bytes (record { head = (table_of b).head; rows = (engine_of config).put (table_of b).rows k (tombstone_of d) })

pub record AsBuried (config : Config) (b grave : List ℕ) (clock : ℕ) (s out : List ℕ) : Type 0 where
  pub undamaged : sound_by config grave ≡ true
  pub answer : served config b clock s (length out) ≡ served config grave clock s (length out)
  pub reply : served_reply config b clock s out ≡ served_reply config grave clock s out
  -- both tables end with the same bytes, or neither changes but for the kept clock
  pub table : (served_table config b clock s (length out) ≡ served_table config grave clock s (length out))
      ⊎ ((served_table config b clock s (length out) ≡ kept_by (served config b clock s (length out)) b clock)
      × (served_table config grave clock s (length out) ≡ kept_by (served config grave clock s (length out)) grave clock))
  pub others : (k : Key) → same (key_in s) k ≡ false → doc_at (served_table config b clock s (length out)) k ≡ doc_at (served_table config grave clock s (length out)) k

-- any frame but a with-meta one is answered, and leaves every other row, as on the undamaged table with the tombstone
abbrev pub ExpiredIsDead : Config → Type 0
ExpiredIsDead config =
    (b : List ℕ) (clock : ℕ) (s out : List ℕ) (d : Doc) → Bytes b → Bytes s → clock < 2 ^ 32 → sound_by config b ≡ true → doc_at b (key_in s) ≡ Some d → Expired (later_at b clock) d
    → among (opcode s) with_metas ≡ false → AsBuried config b (buried config b (key_in s) d) clock s out

-- with-meta writes without options 0x01 and 0x08 compare the row's own numbers: "a key with any row, expired or tombstone included, is compared; the write must be greater, else 0x02."
abbrev pub DeadIsCompared : Config → Type 0
DeadIsCompared config =
    (b : List ℕ) (clock : ℕ) (s : List ℕ) (room : ℕ) (d : Doc) → Reaches config b clock s room → doc_at b (key_in s) ≡ Some d → NotLive (later_at b clock) (Some d)
    → among (opcode s) with_metas ≡ true → header_cas s ≡ 0 → eqb ((with_meta (extras_in s)).options % 2) 1 ≡ false
    → eqb ((with_meta (extras_in s)).options / 8 % 2) 1 ≡ false
    → (greater (mode_at b) (with_meta (extras_in s)).numbers d.numbers ≡ false → Answers config b clock s room 0x02)
    × (greater (mode_at b) (with_meta (extras_in s)).numbers d.numbers ≡ true → Avoids config b clock s room 0x01 × Avoids config b clock s room 0x02)

-- ---- one liveness
-- what a status tells of the key's document: 0x01, and to Append and Prepend 0x05, that it isn't live, and to an Add without a header CAS 0x02 that it is
abbrev pub told_live : List ℕ → ℕ → Bool
told_live s status = cond (among (opcode s) joins) (not (eqb status 0x05)) (cond (needs_live s) (not (eqb status 0x01)) (eqb status 0x02))

-- the frames whose status tells it
abbrev pub tells : List ℕ → Bool
tells s = among (opcode s) joins || (needs_live s || among (opcode s) adds)

-- what the owner's read tells of it
abbrev pub read_live : Document → Bool
read_live r = not (eqb (read_status r) 0x01)

-- at one clock, a document is live to one command exactly if it is live to the owner's read, and so to all of them
abbrev pub OneLiveness : Config → Type 0
OneLiveness config =
    (b : List ℕ) (clock : ℕ) (s : List ℕ) (room status : ℕ) → Reaches config b clock s room → tells s ≡ true
    → Answers config b clock s room status → told_live s status ≡ read_live (read_of config b clock (key_in s))

-- and a live document is found: no such frame is answered 0x01 or 0x05, the owner's read shows its numbers
abbrev pub LiveIsFound : Config → Type 0
LiveIsFound config =
    (b : List ℕ) (clock : ℕ) (s : List ℕ) (room : ℕ) (d : Doc) → Reaches config b clock s room → doc_at b (key_in s) ≡ Some d → Live (later_at b clock) d
    → tells s ≡ true → (Avoids config b clock s room 0x01 × Avoids config b clock s room 0x05) × (read_live (read_of config b clock (key_in s)) ≡ true)

-- a counter goes on counting: "flags and expiry stay"
abbrev pub LiveCounts : Config → Type 0
LiveCounts config =
    (b : List ℕ) (clock : ℕ) (s : List ℕ) (room : ℕ) (d : Doc) → Bytes b → Bytes s → clock < 2 ^ 32 → doc_at b (key_in s) ≡ Some d → Live (later_at b clock) d
    → among (opcode s) counters ≡ true → Answers config b clock s room 0
    → (e : Doc) × ((doc_at (served_table config b clock s room) (key_in s) ≡ Some e)
    × ((e.numbers.flags ≡ d.numbers.flags) × (e.numbers.expiry ≡ d.numbers.expiry)))

-- ---- order 5: what the owner's read tells of the time left, in the expiry and the clock alone
-- the read shows the document, with this time left to it
abbrev pub ShowsLeft : Config → List ℕ → ℕ → Key → Doc → Option ℤ → Type 0
ShowsLeft config b clock k d left = (at len : ℕ) × (read_of config b clock k ≡ Shown d.numbers left at len)

-- "negative once the contact is past, zero exactly at the expiry, and a separate answer for a document that never expires": of a key with a row
pub record TellsLeft (config : Config) (b : List ℕ) (clock : ℕ) (k : Key) (d : Doc) : Type 0 where
  pub never : Live (later_at b clock) d → d.numbers.expiry ≡ 0 → ShowsLeft config b clock k d None
  pub left : Live (later_at b clock) d → (d.numbers.expiry ≡ 0 → ⊥) → ShowsLeft config b clock k d (Some (pos d.numbers.expiry -ℤ pos (later_at b clock)))
  -- "beside 0x01 for an expired document too"
  pub past : Expired (later_at b clock) d → read_of config b clock k ≡ Past (pos d.numbers.expiry -ℤ pos (later_at b clock))
  pub tombstone : d.tomb ≡ true → read_of config b clock k ≡ Missing

abbrev pub ReadTells : Config → Type 0
ReadTells config =
    (b : List ℕ) (clock : ℕ) (k : Key) → sound_by config b ≡ true
    → (doc_at b k ≡ None → read_of config b clock k ≡ Missing) × ((d : Doc) → doc_at b k ≡ Some d → TellsLeft config b clock k d)

-- ---- order 4, on a live document
-- what follows a frame's key
abbrev pub value_in : List ℕ → List ℕ
value_in s = bytes_in s (value_span (header_of s))

-- a document written over another: "All are plain writes with new CAS and revision."
pub record PlainlyWritten (mark : ℕ) (d e : Doc) : Type 0 where
  pub document : e.tomb ≡ false
  pub flags : e.numbers.flags ≡ d.numbers.flags
  pub revision : e.numbers.revision.0 ≡ d.numbers.revision.0 + 1
  pub cas : e.numbers.cas.0 ≡ mark + 1

-- "Append and prepend keep flags and expiry."; the values in the order that their names say
pub record Joins (mark : ℕ) (bytes : List ℕ) (d e : Doc) : Type 0 where
  pub written : PlainlyWritten mark d e
  pub expiry : e.numbers.expiry ≡ d.numbers.expiry
  pub value : e.value ≡ bytes

abbrev pub mark_in : List ℕ → ℕ
mark_in b = num b 8 8

abbrev pub LiveJoins : Config → Type 0
LiveJoins config =
    (b : List ℕ) (clock : ℕ) (s : List ℕ) (room : ℕ) (d : Doc) → Bytes b → Bytes s → clock < 2 ^ 32 → doc_at b (key_in s) ≡ Some d
    → among (opcode s) joins ≡ true → Answers config b clock s room 0
    → (e : Doc) × ((doc_at (served_table config b clock s room) (key_in s) ≡ Some e)
    × ((among (opcode s) appends ≡ true → Joins (mark_in b) (d.value ++ value_in s) d e)
    × (among (opcode s) prepends ≡ true → Joins (mark_in b) (value_in s ++ d.value) d e)))

-- Touch, Get-and-touch: "4 extras: expiry, plain rule", at the later of the kept clock and the call's; the value stays
pub record Touches (mark given clock : ℕ) (d e : Doc) : Type 0 where
  pub written : PlainlyWritten mark d e
  pub expiry : PlainExpiry given clock e.numbers.expiry
  pub value : e.value ≡ d.value

abbrev pub LiveTouches : Config → Type 0
LiveTouches config =
    (b : List ℕ) (clock : ℕ) (s : List ℕ) (room : ℕ) (d : Doc) → Bytes b → Bytes s → clock < 2 ^ 32 → doc_at b (key_in s) ≡ Some d
    → among (opcode s) touches ≡ true → Answers config b clock s room 0
    → (e : Doc) × ((doc_at (served_table config b clock s room) (key_in s) ≡ Some e) × Touches (mark_in b) (num (extras_in s) 0 4) (later_at b clock) d e)

-- a Get of any form, hit or miss, changes no table byte but the kept clock's, and not that where it is refused, whatever the memory
abbrev pub GetKeeps : Config → Type 0
GetKeeps config =
    (b : List ℕ) (clock : ℕ) (s : List ℕ) (room : ℕ) → Bytes b → among (opcode s) gets ≡ true
    → served_table config b clock s room ≡ kept_by (served config b clock s room) b clock
