-- The shape of every opcode, as document 01 lists the commands: which command it is, extras, key, value, quiet; and which opcodes are not built (0x83) or unknown (0x81).
use Rattle.std.specs.Prelude.{ℕ, List, [], ◌∷◌, Bool, true, false, ◌||◌, cond, eqb}
use Rattle.shape.specs.declared.Operation.{Operation}
use Rattle.shape.specs.declared.Operation.TheVariants.{Unknown, NotBuilt, Get, GetKey, Set, Add, Replace, Delete, Increment, Decrement, Noop, Version, SetWithMeta, AddWithMeta, DeleteWithMeta, GetKeys, Append, Prepend, Touch, GetAndTouch}
use Rattle.shape.specs.declared.Extras.{Extras}
use Rattle.shape.specs.declared.Extras.TheVariants.{Nothing, FlagsExpiry, Counter, Meta, Count, Expiry}
use Rattle.std.specs.declared.option.Option.{Option}
use Rattle.std.specs.declared.option.Option.TheVariants.{Some, None}
use Rattle.outcome.specs.Outcome.{status_of}
use Rattle.shape.specs.declared.Shape.{Shape as DeclaredShape}
use Rattle.shape.specs.declared.ShapeNumbers.{ShapeNumbers}
use Rattle.with_meta.specs.FieldRules.{meta_number}
use Rattle.shape.specs.declared.Key.{Key}
use Rattle.shape.specs.declared.Key.TheVariants.{Forbidden, Needed, Optional}
use Rattle.shape.specs.declared.Form.{Form as DeclaredForm}

-- what stands between the header and the end of the body
pub record Form : Type 0 where
  pub extras : Extras
  pub key : ℕ
  pub value : ℕ
  pub meta : ℕ

pub record Shape : Type 0 where
  -- 0 where the command is built, 0x83 where it is not, 0x81 where there is no such command
  pub status : ℕ
  pub operation : Operation
  pub extras : Extras
  -- 0: forbidden, 1: needed, 2: optional
  pub key : ℕ
  -- 0: forbidden, 1: any
  pub value : ℕ
  -- with-meta: 1 has a value before the extended meta, 2 has none; 0: another command
  pub meta : ℕ
  pub quiet : Bool

-- the numbers of a declared form and shape
abbrev pub key_number : Key → ℕ
key_number Forbidden = 0
key_number Needed = 1
key_number Optional = 2

-- what a number says of a key: nothing, where it is none of those three
abbrev pub key_of : ℕ → Option Key
key_of n = cond (eqb n 0) (Some Forbidden) (cond (eqb n 1) (Some Needed) (cond (eqb n 2) (Some Optional) None))

abbrev pub form_told : DeclaredForm → Form
form_told f = record { extras = f.extras; key = key_number f.key; value = cond f.takes_value 1 0; meta = meta_number f.meta }

abbrev pub shape_told : DeclaredShape → Shape
shape_told s = record {
  status = status_of s.built;
  operation = s.operation;
  extras = s.form.extras;
  key = key_number s.form.key;
  value = cond s.form.takes_value 1 0;
  meta = meta_number s.form.meta;
  quiet = s.quiet;
}

-- the shape that has these numbers, whatever they are
abbrev pub numbers_told : ShapeNumbers → Shape
numbers_told s = record { status = s.status; operation = s.operation; extras = s.extras; key = s.key; value = s.value; meta = s.meta; quiet = s.quiet }

-- "nothing after the header"
abbrev pub bare : Form
bare = record { extras = Nothing; key = 0; value = 0; meta = 0 }

-- "key only"
abbrev pub key_only : Form
key_only = record { extras = Nothing; key = 1; value = 0; meta = 0 }

-- "8 extras (flags, expiry), key, any value"
abbrev pub plain_write : Form
plain_write = record { extras = FlagsExpiry; key = 1; value = 1; meta = 0 }

-- "20 extras (delta, initial, expiry), key"
abbrev pub counter : Form
counter = record { extras = Counter; key = 1; value = 0; meta = 0 }

-- with-meta: extras of 24, 25, 26, 28 or 30 bytes; after the key a value (1) or none (2), then the extended meta
abbrev pub meta_write : ℕ → Form
meta_write m = record { extras = Meta; key = 1; value = 1; meta = m }

-- order 1: "optional start key, optional 4-byte count", "No value"
abbrev pub key_listing : Form
key_listing = record { extras = Count; key = 2; value = 0; meta = 0 }

-- order 4: "key and a value of any length, no extras"
abbrev pub joining : Form
joining = record { extras = Nothing; key = 1; value = 1; meta = 0 }

-- order 4: "4 extras: expiry"
abbrev pub touching : Form
touching = record { extras = Expiry; key = 1; value = 0; meta = 0 }

-- a command, its opcode, the opcode of its quiet form, and its form
pub record Command : Type 0 where
  pub operation : Operation
  pub loud : ℕ
  pub quiet : List ℕ
  pub form : Form

abbrev command : Operation → ℕ → ℕ → Form → Command
command o l q f = record { operation = o; loud = l; quiet = q ∷ []; form = f }

-- one without a quiet form
abbrev loud_only : Operation → ℕ → Form → Command
loud_only o l f = record { operation = o; loud = l; quiet = []; form = f }

unfoldable pub commands : List Command
commands =
    command Get 0x00 0x09 key_only
    ∷ command GetKey 0x0c 0x0d key_only
    ∷ command Set 0x01 0x11 plain_write
    ∷ command Add 0x02 0x12 plain_write
    ∷ command Replace 0x03 0x13 plain_write
    ∷ command Delete 0x04 0x14 key_only
    ∷ command Increment 0x05 0x15 counter
    ∷ command Decrement 0x06 0x16 counter
    ∷ loud_only Noop 0x0a bare
    ∷ loud_only Version 0x0b bare
    ∷ command SetWithMeta 0xa2 0xa3 (meta_write 1)
    ∷ command AddWithMeta 0xa4 0xa5 (meta_write 1)
    ∷ command DeleteWithMeta 0xa8 0xa9 (meta_write 2)
    ∷ loud_only GetKeys 0xb8 key_listing
    ∷ command Append 0x0e 0x19 joining
    ∷ command Prepend 0x0f 0x1a joining
    ∷ loud_only Touch 0x1c touching
    ∷ loud_only GetAndTouch 0x1d touching
    ∷ []

-- "0x83: opcodes (hexadecimal) 07, 08, 0e, 0f, 10, 17 to 1a"; order 4: "0x83 loses 0e, 0f, 19 and 1a from its list."
unfoldable pub unbuilt : List ℕ
unbuilt = 0x07 ∷ 0x08 ∷ 0x10 ∷ 0x17 ∷ 0x18 ∷ []

abbrev pub shape_by : Operation → Form → Bool → Shape
shape_by o f q = record { status = 0; operation = o; extras = f.extras; key = f.key; value = f.value; meta = f.meta; quiet = q }

-- an opcode that gets a status whatever follows it
abbrev pub refused : Operation → ℕ → Shape
refused o s = record { status = s; operation = o; extras = Nothing; key = 0; value = 0; meta = 0; quiet = false }

unfoldable pub among : ℕ → List ℕ → Bool
among op [] = false
among op (x ∷ xs) = eqb op x || among op xs

unfoldable pub look_up : ℕ → List Command → Shape → Shape
unfolding among
look_up op [] other = other
look_up op (c ∷ cs) other =
    cond (eqb op c.loud) (shape_by c.operation c.form false)
    (cond (among op c.quiet) (shape_by c.operation c.form true) (look_up op cs other))

-- "0x81: every other opcode"
unfoldable pub shape_of : ℕ → Shape
unfolding look_up among commands unbuilt
shape_of op = look_up op commands (cond (among op unbuilt) (refused NotBuilt 0x83) (refused Unknown 0x81))
