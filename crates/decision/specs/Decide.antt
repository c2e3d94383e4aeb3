-- What a request does, seen only through the row of its key: the decision on numbers, with the bytes put in.
use Rattle.std.specs.Prelude.{ℕ, Bool, cond, List, [], ◌∷◌, length, Option, Some, None}
use Rattle.document.specs.declared.Metadata.{Metadata}
use Rattle.octets.specs.BigEndian.{bytes_of}
use Rattle.digits.specs.Decimal.{digits, number_of}
use Rattle.numbers.specs.declared.Cas.{Cas}
use Rattle.document.specs.Documents.{Key, Doc, doc_value, joined}
use Rattle.document.specs.Stored.{stored_of}
use Rattle.document.specs.declared.Head.{Head}
use Rattle.commands.specs.declared.Command.{Command}
use Rattle.commands.specs.declared.Context.{Context}
use Rattle.commands.specs.declared.Instruction.{Instruction}
use Rattle.effects.specs.declared.Source.{Source}
use Rattle.effects.specs.declared.Source.TheVariants.{Empty, Frame, Digits, Kept, Joined}
use Rattle.effects.specs.declared.Reply.{Reply}
use Rattle.effects.specs.declared.Reply.TheVariants.{Bare, Found, Counted, Version as VersionReply, Keys}
use Rattle.decision.specs.Decision.{Decision, decision}

-- a request whose form is right
pub record Request : Type 0 where
  pub vbucket : ℕ
  pub cas : Cas
  pub quiet : Bool
  pub key : Key
  pub value : List ℕ
  -- it asks for what is no longer served
  pub unsupported : Bool
  pub command : Command

-- what the table is told
pub record Effect : Type 0 where
  pub status : ℕ
  pub store : Option Doc
  pub head : Head

abbrev pub instruction_of : Request → Instruction
instruction_of a = record { vbucket = a.vbucket; cas = a.cas; quiet = a.quiet; size = length a.value; unsupported = a.unsupported; command = a.command }

-- ---- the bytes of a decision: those of the frame and the stored ones
abbrev pub bytes_from : Source → List ℕ → List ℕ → List ℕ
bytes_from Empty frame stored = []
bytes_from Frame frame stored = frame
bytes_from (Digits n) frame stored = digits n
bytes_from Kept frame stored = stored
bytes_from (Joined side) frame stored = joined side stored frame

abbrev pub doc_from : Option Metadata → List ℕ → Option Doc
doc_from None value = None
doc_from (Some r) value = Some (record { tomb = r.tomb; value = value; numbers = r.numbers })

abbrev pub reply_extras : Reply → List ℕ
reply_extras Bare = []
reply_extras (Found flags keyed) = bytes_of 4 flags
reply_extras (Counted n) = []
reply_extras VersionReply = []
reply_extras (Keys n) = []

abbrev pub reply_key : Reply → Key → List ℕ
reply_key Bare key = []
reply_key (Found flags keyed) key = cond keyed key []
reply_key (Counted n) key = []
reply_key VersionReply key = []
reply_key (Keys n) key = []

-- shown: what the table shows the reply, the stored value or the keys listed
abbrev pub reply_value : Reply → List ℕ → List ℕ
reply_value Bare shown = []
reply_value (Found flags keyed) shown = shown
reply_value (Counted n) shown = bytes_of 8 n
reply_value VersionReply shown = 52 ∷ 46 ∷ 48 ∷ 46 ∷ 48 ∷ []
reply_value (Keys n) shown = shown

-- row: what the key's row holds
abbrev pub effect_of : Request → Option Doc → Decision → Effect
effect_of a row x = record {
  status = x.status;
  store = doc_from x.done.store (bytes_from x.done.source a.value (doc_value row));
  head = x.done.head;
}

-- what a decision sees of a table's head, the key's row, whether a row is free and the clock
abbrev pub context_of : Head → Option Doc → Bool → ℕ → Context
context_of h row free clock = record { head = h; row = stored_of row; free = free; clock = clock; number = number_of (doc_value row); size = length (doc_value row) }

unfoldable pub decide : Head → Option Doc → Bool → ℕ → Request → Effect
decide h row free clock a = effect_of a row (decision (context_of h row free clock) (instruction_of a))
