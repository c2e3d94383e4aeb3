-- How each command stands to each test, a row of rules for each, and the statuses in 01's order, first that applies.
use Rattle.std.specs.Prelude.{ℕ, ◌+◌, Bool, true, false, cond, ◌&&◌, ◌||◌, not, List, [], ◌∷◌, ltb, eqb, Option, is_some}
use Rattle.std.specs.Bool.{beq}
use Rattle.numbers.specs.declared.Mode.{Mode}
use Rattle.numbers.specs.declared.Mode.TheVariants.{ByRevision, LastWrite}
use Rattle.numbers.specs.Order.{mode_of}
use Rattle.numbers.specs.Expiry.{passes}
use Rattle.document.specs.declared.Head.{Head}
use Rattle.document.specs.Stored.{accepted, live, has_row, numbers_of}
use Rattle.commands.specs.declared.Kind.{Kind}
use Rattle.commands.specs.declared.Kind.TheVariants.{Set, Add, Replace}
use Rattle.commands.specs.declared.MetaKind.{MetaKind}
use Rattle.commands.specs.declared.MetaKind.TheVariants.{Set as SetMeta, Add as AddMeta, Delete as DeleteMeta}
use Rattle.commands.specs.declared.Counter.{Counter}
use Rattle.commands.specs.declared.Plain.{Plain}
use Rattle.commands.specs.declared.Touching.{Touching}
use Rattle.commands.specs.declared.Meta.{Meta}
use Rattle.commands.specs.declared.Command.{Command}
use Rattle.commands.specs.declared.Command.TheVariants.{Get, Write, Delete, Count, Noop, Version, WithMeta, GetKeys, Join, Touch}
use Rattle.commands.specs.declared.Context.{Context}
use Rattle.commands.specs.declared.Instruction.{Instruction}
use Rattle.commands.specs.declared.Tests.{Tests}

-- ---- how a command stands to each test: its row in the table of rules
pub record Rule : Type 0 where
  -- breaks a rule of status 0x04 that needs mode or clock
  pub fault : Bool
  -- skips the vbucket test
  pub anywhere : Bool
  -- needs a live document
  pub needs : Bool
  -- refused on a live document
  pub fresh : Bool
  -- guarded by the header CAS
  pub guarded : Bool
  -- loses against the key's row
  pub beaten : Bool
  -- counts on the stored number
  pub counts : Bool
  -- joins its value to that of a live document
  pub joins : Bool
  -- raises the mark
  pub marks : Bool
  -- raises the revision
  pub revises : Bool
  pub writes : Bool
  -- the status at which the quiet form sends nothing
  pub silent_on : ℕ

-- a command that stores nothing: whether it skips the vbucket test and needs a live document, and when its quiet form sends nothing
abbrev pub read_rule : Bool → Bool → ℕ → Rule
read_rule anywhere needs silent_on = record {
  fault = false;
  anywhere = anywhere;
  needs = needs;
  fresh = false;
  guarded = false;
  beaten = false;
  counts = false;
  joins = false;
  marks = false;
  revises = false;
  writes = false;
  silent_on = silent_on;
}

-- Get, GetQ, GetK, GetKQ: "Not live: 0x01"; "The quiet two send nothing on 0x01. Header CAS ignored."
abbrev pub get_rule : Rule
get_rule = read_rule false true 1

-- order 1, Get Keys: "vbucket rule as for Get", "None found is status 0", "Header CAS is ignored"
abbrev pub list_rule : Rule
list_rule = read_rule false false 0

-- Noop, Version: they skip 0x07, and have no test of their own: "nothing after the header, whose CAS is ignored"
abbrev pub noop_rule : Rule
noop_rule = read_rule true false 0

-- all plain writes. "Header CAS not 0: not live 0x01, different 0x02"; "Quiet writes send nothing on status 0. Each plain write stores CAS mark + 1 [..]; its revision is the key's row's plus 1"
abbrev pub plain_rule : Bool → Bool → Bool → Bool → Rule
plain_rule fault needs fresh counts = record {
  fault = fault;
  anywhere = false;
  needs = needs;
  fresh = fresh;
  guarded = true;
  beaten = false;
  counts = counts;
  joins = false;
  marks = true;
  revises = true;
  writes = true;
  silent_on = 0;
}

-- "Add on live: 0x02."
abbrev pub is_add : Kind → Bool
is_add Set = false
is_add Add = true
is_add Replace = false

-- "Replace on not live: 0x01."
abbrev pub is_replace : Kind → Bool
is_replace Set = false
is_replace Add = false
is_replace Replace = true

-- Set, Add, Replace. Expiry: "1 to 2,592,000 is added to the clock, 0x04 if that passes 2^32 - 1"
abbrev pub write_rule : Context → Plain → Rule
write_rule c p = plain_rule (passes p.expiry c.clock) (is_replace p.kind) (is_add p.kind) false

-- Delete: "Not live 0x01; header CAS as above."
abbrev pub delete_rule : Rule
delete_rule = plain_rule false true false false

-- Increment, Decrement: "Not live: expiry 0xffffffff gives 0x01"; "Live: the value must be 1 to 20 decimal digits of a number under 2^64, else 0x06."
-- "The 0x04 is tested even where the expiry goes unused."
abbrev pub count_rule : Context → Counter → Rule
count_rule c k = plain_rule (passes k.expiry c.clock) (eqb k.expiry 0xffffffff) false true

-- "option 0x02 missing in last-write-wins or set in revision mode"
abbrev pub is_last : Mode → Bool
is_last ByRevision = false
is_last LastWrite = true

-- "Add on live: 0x02."
abbrev pub is_add_meta : MetaKind → Bool
is_add_meta SetMeta = false
is_add_meta AddMeta = true
is_add_meta DeleteMeta = false

-- Set, Add and Delete with meta. "Header CAS not 0: not live 0x01, different 0x02."
-- "Without options 0x01 and 0x08, a key with any row, expired or tombstone included, is compared; the write must be greater, else 0x02."
abbrev pub meta_rule : Context → Meta → Bool → Rule
meta_rule c w fresh = record {
  fault = not (beq w.last (is_last (mode_of c.head.mode)));
  anywhere = false;
  needs = false;
  fresh = fresh;
  guarded = true;
  beaten = not (w.force || (w.skip || accepted (mode_of c.head.mode) c.row w.numbers));
  counts = false;
  joins = false;
  marks = w.regenerate;
  revises = false;
  writes = true;
  silent_on = 0;
}

-- Append, Prepend, by order 4: "not live is 0x05, whatever the header CAS; a joined value over 1,024 is 0x03, tested right after header CAS"
abbrev pub join_rule : Rule
join_rule = record {
  fault = false;
  anywhere = false;
  needs = false;
  fresh = false;
  guarded = true;
  beaten = false;
  counts = false;
  joins = true;
  marks = true;
  revises = true;
  writes = true;
  silent_on = 0;
}

-- Touch, Get-and-touch, by order 4: "4 extras: expiry, plain rule; not live 0x01; header CAS ignored"; "All are plain writes with new CAS and revision."
abbrev pub touch_rule : Context → Touching → Rule
touch_rule c t = record {
  fault = passes t.expiry c.clock;
  anywhere = false;
  needs = true;
  fresh = false;
  guarded = false;
  beaten = false;
  counts = false;
  joins = false;
  marks = true;
  revises = true;
  writes = true;
  silent_on = 0;
}

unfoldable pub rule_of : Context → Command → Rule
rule_of c (Get keyed) = get_rule
rule_of c (Write p) = write_rule c p
rule_of c Delete = delete_rule
rule_of c (Count k) = count_rule c k
rule_of c Noop = noop_rule
rule_of c Version = noop_rule
rule_of c (WithMeta w) = meta_rule c w (is_add_meta w.kind)
rule_of c (GetKeys n) = list_rule
rule_of c (Join side) = join_rule
rule_of c (Touch t) = touch_rule c t

-- ---- the tests
-- the request is for this table, and the table is active; order 9: "Replica and pending tables now take no write"
abbrev pub is_here : Head → ℕ → Bool
is_here h vbucket = eqb vbucket h.vbucket && eqb h.state 1

abbrev pub guard : Instruction → Rule → Bool
guard i t = t.guarded && not (eqb i.cas.0 0)

-- "the value must be 1 to 20 decimal digits of a number under 2^64"
abbrev pub is_number : Option ℕ → Bool
is_number n = is_some n

unfoldable pub tests_of : Context → Instruction → Rule → Tests
tests_of c i t = record {
  fault = t.fault;
  unsupported = i.unsupported;
  long = ltb 1024 i.size;
  elsewhere = not (t.anywhere || is_here c.head i.vbucket);
  unstored = t.joins && not (live c.row c.clock);
  missing = (t.needs || guard i t) && not (live c.row c.clock);
  conflict = t.beaten || ((t.fresh && live c.row c.clock) || (guard i t && not (eqb i.cas.0 (numbers_of c.row).cas.0)));
  joined = t.joins && ltb 1024 (c.size + i.size);
  number = t.counts && (live c.row c.clock && not (is_number c.number));
  spent = (t.revises && eqb (numbers_of c.row).revision.0 0xffffffffffffffff) || (t.marks && eqb c.head.mark.0 0xffffffffffffffff);
  full = t.writes && not (has_row c.row || c.free);
}

-- ---- "Statuses, first that applies"
pub record Check : Type 0 where
  pub fails : Bool
  pub status : ℕ

infix 90 ◌⇒◌
abbrev pub ◌⇒◌ : Bool → ℕ → Check
b ⇒ s = record { fails = b; status = s }

-- the status of the first check that fails, or 0
unfoldable pub first_failure : List Check → ℕ
first_failure [] = 0
first_failure (c ∷ cs) = cond c.fails c.status (first_failure cs)

unfoldable pub first_status : Tests → ℕ
first_status x = first_failure (
    x.fault ⇒ 0x04
    ∷ x.unsupported ⇒ 0x83
    ∷ x.long ⇒ 0x03
    ∷ x.elsewhere ⇒ 0x07
    ∷ x.unstored ⇒ 0x05
    ∷ x.missing ⇒ 0x01
    ∷ x.conflict ⇒ 0x02
    ∷ x.joined ⇒ 0x03
    ∷ x.number ⇒ 0x06
    ∷ x.spent ⇒ 0x84
    ∷ x.full ⇒ 0x82
    ∷ [])

-- the status that a command with this row has
abbrev pub status_by : Context → Instruction → Rule → ℕ
status_by c i t = first_status (tests_of c i t)
