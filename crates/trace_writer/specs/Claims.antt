-- What is written is read back as what it was written for. Proved in proofs/ReadBack.antt.
use Rattle.std.specs.Prelude.{ℕ, ◌+◌, ◌^◌, ◌≤◌, ◌<◌, ◌≡◌, Bool, false, List, [], ◌∷◌, ◌++◌, length, drop, Option, Some}
use Rattle.octets.specs.BigEndian.{bytes_of}
use Rattle.trace.specs.declared.Field.{Field}
use Rattle.trace.specs.declared.Field.TheVariants.{Clock, Frame, Reply, Purge, Rule}
use Rattle.trace.specs.Trace.{length_in, bytes_held, opening_of, field_of, forcing_in}
use Rattle.trace_writer.specs.Writing.{field_bytes, rule_byte, rule_field, opening_bytes}

-- a field that was written, whatever stands behind it
pub record FieldBack (tag : ℕ) (xs rest : List ℕ) (f : Option Field) : Type 0 where
  pub field : field_of (field_bytes tag xs ++ rest) ≡ f
  pub length-said : length_in (field_bytes tag xs ++ rest) ≡ length xs
  pub bytes : bytes_held (field_bytes tag xs ++ rest) ≡ xs
  pub after : drop (3 + length xs) (field_bytes tag xs ++ rest) ≡ rest

abbrev pub ClockBack : Type 0
ClockBack = (clock : ℕ) (rest : List ℕ) → clock < 2 ^ 32 → FieldBack 1 (bytes_of 4 clock) rest (Some (Clock clock))

abbrev pub FrameBack : Type 0
FrameBack = (frame rest : List ℕ) → length frame < 65536 → FieldBack 2 frame rest (Some (Frame (length frame)))

abbrev pub ReplyBack : Type 0
ReplyBack = (reply rest : List ℕ) → length reply < 65536 → FieldBack 3 reply rest (Some (Reply (length reply)))

abbrev pub PurgeBack : Type 0
PurgeBack = (bound : ℕ) (rest : List ℕ) → bound < 2 ^ 64 → FieldBack 4 (bytes_of 8 bound) rest (Some (Purge (record { 0 = bound })))

abbrev pub RuleBack : Type 0
RuleBack = (forcing : Bool) (rest : List ℕ) → FieldBack 5 (rule_byte forcing ∷ []) rest (Some (Rule forcing))

-- an opening, with what stands behind it: a trace of this mode and vbucket that doesn't take force, and says so by its first field
pub record OpensBack (mode vbucket : ℕ) (rest trace : List ℕ) : Type 0 where
  pub opening : opening_of trace ≡ Some (record { mode = mode; vbucket = vbucket })
  pub fields : drop 3 trace ≡ rule_field false ++ rest
  pub forcing : forcing_in trace ≡ false

abbrev pub OpeningBack : Type 0
OpeningBack =
    (mode vbucket : ℕ) (rest : List ℕ) → 1 ≤ mode → mode ≤ 2 → vbucket < 65536 → length rest ≤ 65529 → OpensBack mode vbucket rest (opening_bytes mode vbucket ++ rest)
