-- The writes that demand 3 speaks of, as requests whose form is right.
use Rattle.std.specs.Prelude.{ℕ, ◌≤◌, ◌≡◌, false, cond, List, [], length}
use Rattle.numbers.specs.declared.Mode.{Mode}
use Rattle.document.specs.Documents.{Doc, Entry}
use Rattle.commands.specs.declared.MetaKind.{MetaKind}
use Rattle.commands.specs.declared.MetaKind.TheVariants.{Set, Add, Delete}
use Rattle.commands.specs.declared.Meta.{Meta}
use Rattle.commands.specs.declared.Command.{Command}
use Rattle.commands.specs.declared.Command.TheVariants.{Get, Write, Delete as PlainDelete, Count, Noop, Version, WithMeta, GetKeys, Join, Touch}
use Rattle.commands.specs.Rules.{is_last}
use Rattle.effects.specs.Done.{is_delete}
use Rattle.decision.specs.Decide.{Request}

-- a request served at a clock
pub record RequestAt : Type 0 where
  pub clock : ℕ
  pub request : Request

abbrev pub SetOrDelete : MetaKind → Type 0
SetOrDelete Set = Unit {0}
SetOrDelete Add = ⊥
SetOrDelete Delete = Unit {0}

-- "A Set carries a document with the numbers in its extras and the value before its extended meta, a Delete a tombstone with its revision and CAS"
abbrev pub carried : List ℕ → Meta → Doc
carried value w = record { tomb = is_delete w.kind; value = cond (is_delete w.kind) [] value; numbers = w.numbers }

-- the meta of a with-meta command; of any other command nothing is said
abbrev pub no_meta : Meta
no_meta = record { kind = Set; numbers = record { flags = 0; expiry = 0; revision = record { 0 = 0 }; cas = record { 0 = 0 } }; force = false; last = false; regenerate = false; skip = false }

abbrev pub meta_in : Command → Meta
meta_in (Get k) = no_meta
meta_in (Write p) = no_meta
meta_in PlainDelete = no_meta
meta_in (Count k) = no_meta
meta_in Noop = no_meta
meta_in Version = no_meta
meta_in (WithMeta w) = w
meta_in (GetKeys n) = no_meta
meta_in (Join side) = no_meta
meta_in (Touch t) = no_meta

abbrev pub meta : RequestAt → Meta
meta c = meta_in c.request.command

abbrev pub carried_doc : RequestAt → Doc
carried_doc c = carried c.request.value (meta c)

abbrev pub write_of : RequestAt → Entry
write_of c = record { key = c.request.key; doc = carried_doc c }

-- a set- or delete-with-meta call for a table of this mode and vbucket, "that break no form, field or size rule of its mode, with header CAS 0 and none of options 0x01, 0x04, 0x08"
pub record MergingRequest (m : Mode) (vbucket : ℕ) (w : Meta) (c : RequestAt) : Type 0 where
  pub with-meta : c.request.command ≡ WithMeta w
  pub supported : c.request.unsupported ≡ false
  pub kind : SetOrDelete w.kind
  pub mode : w.last ≡ is_last m
  pub short : length c.request.value ≤ 1024
  pub here : c.request.vbucket ≡ vbucket
  pub header-cas : c.request.cas.0 ≡ 0
  pub force : w.force ≡ false
  pub regenerate : w.regenerate ≡ false
  pub skip : w.skip ≡ false
