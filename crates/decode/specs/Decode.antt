-- What a whole frame asks for: the command that its opcode and extras spell, with key and value.
use Rattle.std.specs.Prelude.{ℕ, ◌-◌, ◌/◌, ◌%◌, Bool, true, false, not, cond, ◌&&◌, List, length, eqb, Option, Some, None}
use Rattle.octets.specs.Parts.{part}
use Rattle.octets.specs.BigEndian.{num}
use Rattle.shape.specs.Shapes.{Shape, shape_of}
use Rattle.shape.specs.declared.Operation.{Operation}
use Rattle.shape.specs.declared.Operation.TheVariants as Operations
use Rattle.header.specs.declared.Header.{Header}
use Rattle.document.specs.declared.Side.TheVariants.{Front, Back}
use Rattle.with_meta.specs.WithMeta.{with_meta}
use Rattle.with_meta.specs.declared.WithMeta.{WithMeta}
use Rattle.with_meta.specs.FieldRules.{with_meta_ok}
use Rattle.rules.specs.Rules.{meta_size, count_of, is_forced, forces}
use Rattle.request.specs.Reading.{extras_span, key_span, value_span, bytes_in}
use Rattle.commands.specs.declared.Kind.{Kind}
use Rattle.commands.specs.declared.Kind.TheVariants.{Set, Add, Replace}
use Rattle.commands.specs.declared.MetaKind.{MetaKind}
use Rattle.commands.specs.declared.MetaKind.TheVariants.{Set as SetMeta, Add as AddMeta, Delete as DeleteMeta}
use Rattle.commands.specs.declared.Command.{Command}
use Rattle.commands.specs.declared.Command.TheVariants.{Get, Write, Delete, Count, Noop, Version, WithMeta as Metas, GetKeys, Join, Touch}
use Rattle.commands.specs.declared.Instruction.{Instruction}
use Rattle.decision.specs.Decide.{Request}
use Rattle.decode.specs.declared.Family.{Family}
use Rattle.decode.specs.declared.Family.TheVariants.{Bare, Stored, Counted, Carried, Listed, Touched}

-- "8 extras (flags, expiry)"
unfoldable pub plain_of : Kind → List ℕ → Command
plain_of k extras = Write (record { kind = k; flags = num extras 0 4; expiry = num extras 4 4 })

-- "20 extras (delta, initial, expiry)"
unfoldable pub counter_of : Bool → List ℕ → Command
counter_of up extras = Count (record { up = up; delta = num extras 0 8; initial = num extras 8 8; expiry = num extras 16 4 })

-- order 4, Touch and Get-and-touch: "4 extras: expiry"; the second one's reply shows the document
unfoldable pub touch_of : Bool → List ℕ → Command
touch_of shown extras = Touch (record { expiry = num extras 0 4; shown = shown })

-- the options' bits: 0x01, 0x02, 0x04, 0x08
unfoldable pub meta_command : MetaKind → WithMeta → Command
meta_command k w = Metas (record {
  kind = k;
  numbers = w.numbers;
  force = eqb (w.options % 2) 1;
  last = eqb (w.options / 2 % 2) 1;
  regenerate = eqb (w.options / 4 % 2) 1;
  skip = eqb (w.options / 8 % 2) 1;
})

-- how each operation's command is told, in 01's order: at once, or from its extras; "Set a2/a3, Add a4/a5, Delete a8/a9" carry their meta
abbrev pub family_of : Operation → Family
family_of Operations.Get = Bare (Get false)
family_of Operations.GetKey = Bare (Get true)
family_of Operations.Set = Stored Set
family_of Operations.Add = Stored Add
family_of Operations.Replace = Stored Replace
family_of Operations.Delete = Bare Delete
family_of Operations.Increment = Counted true
family_of Operations.Decrement = Counted false
family_of Operations.Noop = Bare Noop
family_of Operations.Version = Bare Version
family_of Operations.SetWithMeta = Carried SetMeta
family_of Operations.AddWithMeta = Carried AddMeta
family_of Operations.DeleteWithMeta = Carried DeleteMeta
family_of Operations.GetKeys = Listed
family_of Operations.Append = Bare (Join Back)
family_of Operations.Prepend = Bare (Join Front)
family_of Operations.Touch = Touched false
family_of Operations.GetAndTouch = Touched true
family_of Operations.NotBuilt = Bare Noop
family_of Operations.Unknown = Bare Noop

abbrev pub command_by : Family → List ℕ → Command
command_by (Bare c) extras = c
command_by (Stored k) extras = plain_of k extras
command_by (Counted up) extras = counter_of up extras
command_by (Carried k) extras = meta_command k (with_meta extras)
command_by Listed extras = GetKeys (count_of extras)
command_by (Touched shown) extras = touch_of shown extras

-- the command that operation and extras spell
unfoldable pub command_of : Operation → List ℕ → Command
unfolding plain_of counter_of meta_command touch_of
command_of o extras = command_by (family_of o) extras

-- the value before the extended meta
unfoldable pub bare_value : List ℕ → Header → List ℕ
bare_value s h = part s (value_span h).at ((value_span h).len - meta_size (shape_of h.opcode) (bytes_in s (extras_span h)))

-- an ask of a command and a value of this size; the rest is the header's and the opcode's
abbrev pub instruction_with : Shape → Header → Command → ℕ → Bool → Instruction
instruction_with s h command size unsupported = record { vbucket = h.vbucket; cas = h.cas; quiet = s.quiet; size = size; unsupported = unsupported; command = command }

-- 01's number for each answer: "any field rule below" is 0x04, and 0 where none is broken
abbrev pub decoded_status : Option Instruction → ℕ
decoded_status None = 0x04
decoded_status (Some i) = 0

-- order 1, a listing: "count 0 is 0x04"
unfoldable pub list_decoded : Shape → Header → List ℕ → ℕ → Option Instruction
list_decoded s h extras size = cond (eqb (count_of extras) 0) None (Some (instruction_with s h (GetKeys (count_of extras)) size false))

-- a with-meta command unless its fields break the rules; forcing: option 0x01 is taken
unfoldable pub meta_decoded : Bool → Shape → Header → MetaKind → List ℕ → List ℕ → Option Instruction
meta_decoded forcing s h k extras value =
    cond (with_meta_ok s.meta (with_meta extras) value)
    (Some (instruction_with s h (meta_command k (with_meta extras)) (length value - (with_meta extras).section) (is_forced (with_meta extras) && not forcing)))
    None

abbrev pub decoded_as : Bool → Family → Shape → Header → List ℕ → List ℕ → Option Instruction
decoded_as forcing (Bare c) s h extras value = Some (instruction_with s h c (length value) false)
decoded_as forcing (Stored k) s h extras value = Some (instruction_with s h (plain_of k extras) (length value) false)
decoded_as forcing (Counted up) s h extras value = Some (instruction_with s h (counter_of up extras) (length value) false)
decoded_as forcing (Carried k) s h extras value = meta_decoded forcing s h k extras value
decoded_as forcing Listed s h extras value = list_decoded s h extras (length value)
decoded_as forcing (Touched shown) s h extras value = Some (instruction_with s h (touch_of shown extras) (length value) false)

-- what a frame asks for unless it breaks the field rules, from its header, its opcode's shape, its extras and what follows its key
unfoldable pub decoded_by : Bool → Shape → Header → List ℕ → List ℕ → Option Instruction
unfolding list_decoded meta_decoded
decoded_by forcing s h extras value = decoded_as forcing (family_of s.operation) s h extras value

-- order 9: a with-meta request with option 0x01 is unsupported, unless force is taken
unfoldable pub request_of : Bool → List ℕ → Header → Request
unfolding bare_value command_of forces
request_of forcing s h = record {
  vbucket = h.vbucket;
  cas = h.cas;
  quiet = (shape_of h.opcode).quiet;
  key = bytes_in s (key_span h);
  value = bare_value s h;
  unsupported = forces (shape_of h.opcode) (bytes_in s (extras_span h)) && not forcing;
  command = command_of (shape_of h.opcode).operation (bytes_in s (extras_span h));
}
