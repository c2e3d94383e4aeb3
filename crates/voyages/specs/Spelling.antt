-- Orders 6 and 9: what a trace spells, on its bytes: where a replay doesn't begin, on what table it begins, and each field from the first to the last. Proved in proofs/Spelling.antt.
use Rattle.std.specs.Prelude.{ℕ, ◌+◌, ◌≤◌, ◌<◌, ◌≡◌, Bool, true, false, List, [], ◌∷◌, ◌⊎◌, length, None, Option, Some}
use Rattle.engine.specs.declared.Config.{Config}
use Rattle.octets.specs.Parts.{part}
use Rattle.octets.specs.BigEndian.{num}
use Rattle.rows.specs.Table.{table_bytes, fresh}
use Rattle.trace.specs.declared.Field.{Field}
use Rattle.trace.specs.declared.Field.TheVariants.{Clock, Frame, Reply, Purge, Rule}
use Rattle.trace.specs.Trace.{Placed, fields_in}
use Rattle.replay.specs.Replay.{Ending, Damaged, Differs, Stopped, Replayed, ruled_by, replayed}
use Rattle.voyages.specs.Serving.{ReplaysAs}

-- ---- the opening
-- "one byte of mode (1 revision, 2 last-write-wins) and two of vbucket", in a trace that isn't "over 65,536 bytes"
pub record WellOpened (trace : List ℕ) : Type 0 where
  pub least : 3 ≤ length trace
  pub most : length trace ≤ 65536
  pub mode : (num trace 0 1 ≡ 1) ⊎ (num trace 0 1 ≡ 2)

-- "0 for a bad opening or a trace over 65,536 bytes": the lent memory stays as it is
-- it rules out a replay that takes mode 3, an opening of two bytes or a trace of 65,537, and one that makes its table first
abbrev pub BadOpeningStops : Config → Type 0
BadOpeningStops config =
    (b trace : List ℕ) → length b ≡ 42000 → (WellOpened trace → ⊥) → ((replayed config b trace).answer ≡ Stopped 0) × ((replayed config b trace).table ≡ b)

-- memory of another size than a table of 32 rows takes is refused, unchanged, whatever the trace
abbrev pub OtherSizeRefused : Config → Type 0
OtherSizeRefused config = (b trace : List ℕ) → (length b ≡ 42000 → ⊥) → ((replayed config b trace).answer ≡ Damaged) × ((replayed config b trace).table ≡ b)

-- any other trace is replayed, "on a fresh active table of 32 rows", of the mode and the vbucket that its first three bytes say, by the rule of force that it says itself (`Forcing.antt`); "The clock is 0 until a tag 1."
-- it rules out a replay that refuses a trace of 65,536 bytes or reads the vbucket with its low byte first; that leaves a purge out, takes another clock, serves a frame with bytes behind it, or compares with an earlier frame's reply
abbrev pub ReplayServes : Config → Type 0
ReplayServes config =
    (b trace : List ℕ) → length b ≡ 42000 → WellOpened trace
    → ReplaysAs (ruled_by config trace) (table_bytes (fresh 32 1 (num trace 0 1) (num trace 1 2))) 0 None 0 (fields_in trace) (replayed config b trace)

-- ---- the fields
-- "one-byte tag and two-byte length"
abbrev pub tag_at : List ℕ → ℕ → ℕ
tag_at trace at = num trace at 1

abbrev pub said_at : List ℕ → ℕ → ℕ
said_at trace at = num trace (at + 1) 2

-- all its bytes are there
abbrev pub WholeAt : List ℕ → ℕ → Type 0
WholeAt trace at = at + (3 + said_at trace at) ≤ length trace

-- "a cut field": its tag and length are, or the bytes that it says
abbrev pub CutAt : List ℕ → ℕ → Type 0
CutAt trace at = (length trace < at + 3) ⊎ (length trace < at + (3 + said_at trace at))

-- "An unknown tag"
abbrev pub UnknownAt : List ℕ → ℕ → Type 0
UnknownAt trace at = (tag_at trace at ≡ 0) ⊎ (5 < tag_at trace at)

-- "wrong length": a clock that isn't of 4 bytes, a purge bound that isn't of 8
abbrev pub WrongLengthAt : List ℕ → ℕ → Type 0
WrongLengthAt trace at = ((tag_at trace at ≡ 1) × (said_at trace at ≡ 4 → ⊥)) ⊎ ((tag_at trace at ≡ 4) × (said_at trace at ≡ 8 → ⊥))

-- "tag 5 with one byte of 2; a 1 there means the old": force is taken or not
abbrev pub RuleIs : ℕ → Bool → Type 0
RuleIs n true = n ≡ 1
RuleIs n false = n ≡ 2

-- "its first field is tag 5 with one byte": the field at a place is, and says this rule
pub record RuleAt (trace : List ℕ) (at : ℕ) (forcing : Bool) : Type 0 where
  pub first : at ≡ 3
  pub tag : tag_at trace at ≡ 5
  pub one : said_at trace at ≡ 1
  pub rule : RuleIs (num trace (at + 3) 1) forcing

-- "Any other tag 5"
pub record OtherRuleAt (trace : List ℕ) (at : ℕ) : Type 0 where
  pub tag : tag_at trace at ≡ 5
  pub other : (forcing : Bool) → RuleAt trace at forcing → ⊥

-- "tag 1 clock (4 bytes), tag 2 one request frame, tag 3 the reply expected for the frame before it, tag 4 a purge bound (8 bytes)"
abbrev pub SpeltAt : List ℕ → ℕ → Option Field → Type 0
SpeltAt trace at (Some (Clock n)) = WholeAt trace at × ((tag_at trace at ≡ 1) × ((said_at trace at ≡ 4) × (n ≡ num trace (at + 3) 4)))
SpeltAt trace at (Some (Frame len)) = WholeAt trace at × ((tag_at trace at ≡ 2) × (len ≡ said_at trace at))
SpeltAt trace at (Some (Reply len)) = WholeAt trace at × ((tag_at trace at ≡ 3) × (len ≡ said_at trace at))
SpeltAt trace at (Some (Purge bound)) = WholeAt trace at × ((tag_at trace at ≡ 4) × ((said_at trace at ≡ 8) × (bound.0 ≡ num trace (at + 3) 8)))
SpeltAt trace at (Some (Rule forcing)) = WholeAt trace at × RuleAt trace at forcing
SpeltAt trace at None = CutAt trace at ⊎ (UnknownAt trace at ⊎ (WrongLengthAt trace at ⊎ OtherRuleAt trace at))

-- what comes after a field: nothing after a broken one, else the fields from where it ends
abbrev pub NextOf : Option Field → List Placed → Type 0 → Type 0
NextOf None ps more = ps ≡ []
NextOf (Some (Clock n)) ps more = more
NextOf (Some (Frame len)) ps more = more
NextOf (Some (Reply len)) ps more = more
NextOf (Some (Purge bound)) ps more = more
NextOf (Some (Rule forcing)) ps more = more

-- the fields from a place on, to the end of the trace; "A place is the offset of a field's tag"
abbrev pub SpeltFrom : List ℕ → ℕ → List Placed → Type 0
SpeltFrom trace at [] = length trace ≤ at
SpeltFrom trace at (p ∷ ps) =
    (at < length trace)
    × ((p.at ≡ at)
    × (SpeltAt trace at p.field
    × ((p.bytes ≡ part trace (at + 3) (said_at trace at)) × NextOf p.field ps (SpeltFrom trace (at + (3 + said_at trace at)) ps))))

-- it rules out a replay that reads lengths with their low byte first, takes a clock of any length, skips unknown tags, takes a rule that isn't the first field or says 3, leaves a cut field out, ends before the last field or tells the place where a field ends
abbrev pub FieldsSpelt : Type 0
FieldsSpelt = (trace : List ℕ) → SpeltFrom trace 3 (fields_in trace)

-- ---- the place
-- where a replay that began ended: at no place of the opening, and within the trace
abbrev pub EndsWithin : List ℕ → Ending → Type 0
EndsWithin trace (Differs at) = (3 ≤ at) × (at < length trace)
EndsWithin trace (Stopped at) = (3 ≤ at) × (at < length trace)
EndsWithin trace (Replayed n) = Unit {0}
EndsWithin trace Damaged = ⊥

-- so place 0 tells a bad opening or a trace that is too long, and nothing else
abbrev pub PlacesWithin : Config → Type 0
PlacesWithin config = (b trace : List ℕ) → length b ≡ 42000 → WellOpened trace → EndsWithin trace (replayed config b trace).answer
