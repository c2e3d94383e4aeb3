-- Order 2, the failure at sea: "A GPS fault set a boat's clock back a day and yesterday's contacts came alive." Over any list of serving calls, purges, reads and calls that make the table active, with any clocks, each on the table as the one before left it. Proved in proofs/Clock.antt.
use Rattle.std.specs.Prelude.{ℕ, ◌^◌, ◌≤◌, ◌<◌, max, ◌≡◌, Bool, true, false, not, cond, ◌&&◌, List, [], ◌∷◌, ◌++◌, ◌⊎◌, eqb, replicate, pos, ◌-ℤ◌, Some, None}
use Rattle.engine.specs.declared.Config.{Config}
use Rattle.octets.specs.Parts.{Bytes}
use Rattle.octets.specs.Compare.{same}
use Rattle.numbers.specs.declared.Numbers.{Numbers}
use Rattle.document.specs.Documents.{Key, Doc}
use Rattle.listing.specs.Listing.{listed_keys}
use Rattle.listing.specs.Claims.{OneOf}
use Rattle.shape.specs.Shapes.{among}
use Rattle.rows.specs.Table.{table_bytes}
use Rattle.owning.specs.Owner.{Missing, Expired as ExpiredBy, Live, read_of, read_outcome, read_status, purge_of, purge_outcome, purged_bytes, activate_of, activate_outcome, activated_bytes}
use Rattle.serving.specs.Serve.{served_outcome, served_status}
use Rattle.promises.specs.Calls.{Call, served_by, table_served}
use Rattle.promises.specs.Merge.{doc_at}
use Rattle.promises.specs.Listing.{docs_in}
use Rattle.promises.specs.Judged.{at}
use Rattle.promises.specs.Kept.{kept_at, later_at}
use Rattle.promises.specs.Expiry.{Expired, opcode, key_in, gets, joins, needs_live, Reaches, Answers}

-- a call on a table: serving, a purge with its clock and bound, a read with its clock and key; order 9: making it active, which takes no clock
pub data TableCall : Type 0 where
  Serve : Call → TableCall
  Purge : ℕ → ℕ → TableCall
  Read : ℕ → Key → TableCall
  Activate : TableCall

abbrev pub clock_of : TableCall → ℕ
clock_of (Serve c) = c.clock
clock_of (Purge clock bound) = clock
clock_of (Read clock k) = clock
clock_of Activate = 0

-- 01's outcome of it
abbrev pub outcome_of : Config → List ℕ → TableCall → ℕ
outcome_of config b (Serve c) = served_outcome (served_by config b c)
outcome_of config b (Purge clock bound) = purge_outcome (purge_of config b clock bound)
outcome_of config b (Read clock k) = read_outcome (read_of config b clock k)
outcome_of config b Activate = activate_outcome (activate_of config b)

-- the table's memory after it; a read is lent what it can't change
abbrev pub table_called : Config → List ℕ → TableCall → List ℕ
table_called config b (Serve c) = table_served config b c
table_called config b (Purge clock bound) = purged_bytes config b clock bound
table_called config b (Read clock k) = b
table_called config b Activate = activated_bytes config b

abbrev pub memory_after : Config → List ℕ → List TableCall → List ℕ
memory_after config b [] = b
memory_after config b (x ∷ xs) = memory_after config (table_called config b x) xs

-- the calls that "raise it": "A purge, and serving a frame with any status"; "outcomes 1 to 5 and document reads don't", and one that makes the table active "changes nothing but the state"
abbrev pub raises : Config → List ℕ → TableCall → Bool
raises config b (Serve c) = eqb (outcome_of config b (Serve c)) 0
raises config b (Purge clock bound) = eqb (outcome_of config b (Purge clock bound)) 0
raises config b (Read clock k) = false
raises config b Activate = false

-- bytes and a clock of 32 bits, as every call has them
abbrev pub Given : TableCall → Type 0
Given (Serve c) = Bytes c.received × (c.clock < 2 ^ 32)
Given (Purge clock bound) = clock < 2 ^ 32
Given (Read clock k) = clock < 2 ^ 32
Given Activate = Unit {0}

abbrev pub AllGiven : List TableCall → Type 0
AllGiven [] = Unit {0}
AllGiven (x ∷ xs) = Given x × AllGiven xs

-- ---- the kept clock
-- the greatest of itself and those that raise it
abbrev pub clock_after : Config → ℕ → List ℕ → List TableCall → ℕ
clock_after config n b [] = n
clock_after config n b (x ∷ xs) = clock_after config (cond (raises config b x) (max n (clock_of x)) n) (table_called config b x) xs

-- "Nothing lowers it", and nothing else raises it: on any memory
abbrev pub KeepsLatest : Config → Type 0
KeepsLatest config = (b : List ℕ) (xs : List TableCall) → Bytes b → AllGiven xs → kept_at (memory_after config b xs) ≡ clock_after config (kept_at b) b xs

-- ---- an expired document stays expired
-- the opcodes that store nothing: any Get, Noop, Version, Get Keys
abbrev pub read_only : List ℕ
read_only = gets ++ (0x0a ∷ 0x0b ∷ 0xb8 ∷ [])

-- the key is written: a frame for it that isn't one of those is served with status 0
abbrev pub writes_key : Config → List ℕ → TableCall → Key → Bool
writes_key config b (Serve c) k =
    eqb (served_outcome (served_by config b c)) 0 && (eqb (served_status (served_by config b c)) 0 && (not (among (opcode c.received) read_only) && same (key_in c.received) k))
writes_key config b (Purge clock bound) k = false
writes_key config b (Read clock j) k = false
writes_key config b Activate k = false

abbrev pub Unwritten : Config → List ℕ → List TableCall → Key → Type 0
Unwritten config b [] k = Unit {0}
Unwritten config b (x ∷ xs) k = (writes_key config b x k ≡ false) × Unwritten config (table_called config b x) xs k

-- "a document that was expired to a served frame or to a purge"
pub record ExpiredTo (config : Config) (b : List ℕ) (x : TableCall) (k : Key) (d : Doc) : Type 0 where
  pub bytes : Bytes b
  pub raised : raises config b x ≡ true
  pub there : doc_at b k ≡ Some d
  pub expired : Expired (later_at b (clock_of x)) d

-- a document that is expired to every call on a table, whatever its clock: "no clock brings it back"
pub record ExpiredForGood (config : Config) (b : List ℕ) (k : Key) (d : Doc) : Type 0 where
  -- its row is as it was, or a purge freed it
  pub left : (doc_at b k ≡ Some d) ⊎ (doc_at b k ≡ None)
  pub expired : (clock : ℕ) → Expired (later_at b clock) d
  -- a read doesn't show it; order 5: where its row is left, it tells the seconds, and nothing where that was freed
  pub read : (clock : ℕ) → read_status (read_of config b clock k) ≡ 0x01
  pub freed : (clock : ℕ) → doc_at b k ≡ None → read_of config b clock k ≡ Missing
  pub told : (clock : ℕ) → doc_at b k ≡ Some d → read_of config b clock k ≡ ExpiredBy (pos d.numbers.expiry -ℤ pos (later_at b clock))
  -- a listing doesn't show its key
  pub listed : (clock : ℕ) (start : Key) (count : ℕ) → OneOf k (listed_keys (docs_in b) (later_at b clock) start count) → ⊥
  -- a frame that needs a live document doesn't find it
  pub frame : (clock : ℕ) (s : List ℕ) (room : ℕ) → Reaches config b clock s room → key_in s ≡ k → needs_live s ≡ true → Answers config b clock s room 0x01
  -- nor does one that joins a value to it
  pub joined : (clock : ℕ) (s : List ℕ) (room : ℕ) → Reaches config b clock s room → key_in s ≡ k → among (opcode s) joins ≡ true → Answers config b clock s room 0x05
  -- a purge up to its CAS frees it
  pub purge : (clock bound : ℕ) → clock < 2 ^ 32 → d.numbers.cas.0 ≤ bound → doc_at (purged_bytes config b clock bound) k ≡ None

-- "a document that was expired to a served frame or to a purge is expired to every later call, reads included, until its key is written again"
abbrev pub StaysExpired : Config → Type 0
StaysExpired config =
    (b : List ℕ) (x : TableCall) (xs : List TableCall) (k : Key) (d : Doc) → AllGiven (x ∷ xs) → ExpiredTo config b x k d → Unwritten config b (x ∷ xs) k
    → ExpiredForGood config (memory_after config b (x ∷ xs)) k d

-- ---- "A read raises nothing, so an earlier read by itself promises nothing of a later one"
abbrev pub key : Key
key = 0x63 ∷ []

abbrev numbers : Numbers
numbers = record { flags = 0; expiry = 50; revision = record { 0 = 1 }; cas = record { 0 = 1 } }

-- a contact of one byte that expires at 50, in a table that has seen no clock
abbrev pub short_lived : List ℕ
short_lived =
    table_bytes (record {
      head = record { state = 1; mode = 1; vbucket = 0; clock = 0; mark = record { 0 = 1 } };
      rows = Some (record { key = key; doc = record { tomb = false; value = 0x31 ∷ []; numbers = numbers } }) ∷ [];
    })

-- a Noop frame
abbrev noop : List ℕ
noop = 0x80 ∷ 0x0a ∷ replicate 22 0

pub record ReadsAlone (config : Config) : Type 0 where
  pub missed : read_of config short_lived 50 key ≡ ExpiredBy (pos 0)
  -- a second earlier it is there again
  pub shown-again : read_of config (memory_after config short_lived (Read 50 key ∷ [])) 49 key ≡ Live numbers (Some (pos 1)) 49 1
  -- but not once a frame was served at 50, be it a Noop, or a purge answered, be it one that frees no row
  pub after_frame : read_of config (memory_after config short_lived (Serve (at 50 noop) ∷ [])) 49 key ≡ ExpiredBy (pos 0)
  pub after-purge : read_of config (memory_after config short_lived (Purge 50 0 ∷ [])) 49 key ≡ ExpiredBy (pos 0)

-- ---- the plain expiry sum: "A Set of 10 s given clock 50 on a table that kept 110 stores 120."
-- a table of one free row that keeps a clock
abbrev keeping : ℕ → List ℕ
keeping kept = table_bytes (record { head = record { state = 1; mode = 1; vbucket = 0; clock = kept; mark = record { 0 = 0 } }; rows = None ∷ [] })

-- a Set of that contact, with an expiry under 256
abbrev set_for : ℕ → List ℕ
set_for expiry =
    0x80 ∷ 0x01 ∷ 0 ∷ 1 ∷ 8 ∷ 0 ∷ 0 ∷ 0 ∷ 0 ∷ 0 ∷ 0 ∷ 10 ∷ replicate 12 0
    ++ (0 ∷ 0 ∷ 0 ∷ 0 ∷ 0 ∷ 0 ∷ 0 ∷ expiry ∷ 0x63 ∷ 0x31 ∷ [])

abbrev stored_until : ℕ → Doc
stored_until expiry = record { tomb = false; value = 0x31 ∷ []; numbers = record { flags = 0; expiry = expiry; revision = record { 0 = 1 }; cas = record { 0 = 1 } } }

pub record SumsLater (config : Config) : Type 0 where
  pub stored : doc_at (table_served config (keeping 110) (at 50 (set_for 10))) key ≡ Some (stored_until 120)
  pub kept : kept_at (table_served config (keeping 110) (at 50 (set_for 10))) ≡ 110
  -- a clock of 2^32 - 1 given once stays: a second is 0x04 from then on, "never" isn't
  pub spent : served_status (served_by config (keeping 0xffffffff) (at 50 (set_for 1))) ≡ 0x04
  pub never : served_status (served_by config (keeping 0xffffffff) (at 50 (set_for 0))) ≡ 0
