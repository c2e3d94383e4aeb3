-- What is claimed of decisions. Proved in proofs/.
use Rattle.std.specs.Prelude.{ℕ, ◌^◌, ◌<◌, ◌≤◌, max, ◌≡◌, Bool, true, cond, ◌||◌, [], length, Option, Some, None}
use Rattle.numbers.specs.Claims.{NumbersFit}
use Rattle.numbers.specs.Order.{mode_of}
use Rattle.document.specs.declared.Head.{Head}
use Rattle.document.specs.Head.{marked}
use Rattle.document.specs.Documents.{Doc, doc_value}
use Rattle.document.specs.Stored.{stored_of, has_row, numbers_of, accepted}
use Rattle.commands.specs.declared.MetaKind.{MetaKind}
use Rattle.commands.specs.declared.Command.{Command}
use Rattle.commands.specs.declared.Command.TheVariants.{Get, Write, Delete, Count, Noop, Version, WithMeta, GetKeys, Join, Touch}
use Rattle.commands.specs.declared.Meta.{Meta}
use Rattle.effects.specs.Done.{is_delete}
use Rattle.decision.specs.Decide.{Request, Effect, decide}
use Rattle.decision.specs.Merging.{RequestAt, MergingRequest, carried}

-- a document that a table with this mark may hold
pub record SoundDoc (mark : ℕ) (d : Doc) : Type 0 where
  pub fits : NumbersFit d.numbers
  pub one : 1 ≤ d.numbers.cas.0
  pub marked : d.numbers.cas.0 ≤ mark
  pub short : length d.value ≤ 1024
  pub bare : d.tomb ≡ true → (d.value ≡ []) × (d.numbers.flags ≡ 0) × (d.numbers.expiry ≡ 0)

-- what the rules of form say of a command. "for Delete, [..] flags or expiry not 0"
abbrev pub BareDelete : MetaKind → ℕ → ℕ → Type 0
BareDelete k flags expiry = is_delete k ≡ true → (flags ≡ 0) × (expiry ≡ 0)

abbrev pub Formed : Command → Type 0
Formed (Get k) = Unit {0}
Formed (Write p) = (p.flags < 2 ^ 32) × (p.expiry < 2 ^ 32)
Formed Delete = Unit {0}
Formed (Count k) = k.expiry < 2 ^ 32
Formed Noop = Unit {0}
Formed Version = Unit {0}
Formed (WithMeta w) = NumbersFit w.numbers × (1 ≤ w.numbers.cas.0) × BareDelete w.kind w.numbers.flags w.numbers.expiry
Formed (GetKeys n) = Unit {0}
Formed (Join side) = Unit {0}
Formed (Touch t) = t.expiry < 2 ^ 32

-- "A non-zero status changes no table byte": it stores nothing and leaves the head
abbrev pub StatusStoresNothing : Type 0
StatusStoresNothing =
    (h : Head) (row : Option Doc) (free : Bool) (clock : ℕ) (q : Request) → ((decide h row free clock q).status ≡ 0 → ⊥)
    → ((decide h row free clock q).store ≡ None) × ((decide h row free clock q).head ≡ h)

-- a key without a row is stored for only where a row is free
abbrev pub StoresWithRoom : Type 0
StoresWithRoom = (h : Head) (free : Bool) (clock : ℕ) (q : Request) (d : Doc) → (decide h None free clock q).store ≡ Some d → free ≡ true

-- what is stored fits the table's rules under the new mark, which is no lower than the old one and below 2^64, and nothing else of the head changes
pub record StoredSound (h : Head) (row : Option Doc) (free : Bool) (clock : ℕ) (q : Request) : Type 0 where
  pub doc : (d : Doc) → (decide h row free clock q).store ≡ Some d → SoundDoc (decide h row free clock q).head.mark.0 d
  pub head : (decide h row free clock q).head ≡ marked h (decide h row free clock q).head.mark.0
  pub grows : h.mark.0 ≤ (decide h row free clock q).head.mark.0
  pub fits : (decide h row free clock q).head.mark.0 < 2 ^ 64

abbrev pub StoresSound : Type 0
StoresSound =
    (h : Head) (row : Option Doc) (free : Bool) (clock : ℕ) (q : Request) → h.mark.0 < 2 ^ 64 → Formed q.command → NumbersFit (numbers_of (stored_of row))
    → length (doc_value row) ≤ 1024 → StoredSound h row free clock q

-- the effect of a write of demand 3: stored, with the mark raised where lower, or refused with 0x02
abbrev pub keep : Head → Doc → Effect
keep h d = record { status = 0; store = Some d; head = marked h (max h.mark.0 d.numbers.cas.0) }

abbrev pub refuse : Head → ℕ → Effect
refuse h s = record { status = s; store = None; head = h }

abbrev pub MergingDecided : Type 0
MergingDecided =
    (h : Head) (row : Option Doc) (free : Bool) (w : Meta) (c : RequestAt) → h.state ≡ 1 → MergingRequest (mode_of h.mode) h.vbucket w c
    → (has_row (stored_of row) || free) ≡ true
    → decide h row free c.clock c.request
    ≡ cond (accepted (mode_of h.mode) (stored_of row) w.numbers) (keep h (carried c.request.value w)) (refuse h 0x02)
