-- Order 8 on bytes: "All other rules, and demand 3, are shown once for a write whichever layout carried it." Demand 3 (promises/specs/Merge.antt) and every other theorem speak of the write that the extras carry; here, that serving does too, and what it answers to the 2012 layout in last-write-wins. Proved in proofs/.
use Rattle.std.specs.Prelude.{ℕ, ◌≤◌, ◌≡◌, true, List, length}
use Rattle.numbers.specs.declared.Mode.TheVariants.{LastWrite}
use Rattle.shape.specs.Shapes.{among, shape_of}
use Rattle.header.specs.Header.{header_of}
use Rattle.with_meta.specs.WithMeta.{with_meta}
use Rattle.rules.specs.Rules.{form_ok}
use Rattle.request.specs.Reading.{Whole, gate_of}
use Rattle.engine.specs.declared.Config.{Config}
use Rattle.engines.specs.Damage.{sound_by}
use Rattle.serving.specs.Serve.{Served, served_outcome, served_status, served_length, served_needed, served, served_table, served_reply}
use Rattle.promises.specs.Merge.{mode_at}
use Rattle.promises.specs.Expiry.{opcode, extras_in, key_in, value_in, with_metas}

-- a whole frame of a with-meta command in a right form, as 01's status 2 has it of the header
pub record RightForm (s : List ℕ) : Type 0 where
  pub whole : gate_of s ≡ Whole (header_of s)
  pub command : among (opcode s) with_metas ≡ true
  pub form : form_ok (shape_of (opcode s)) (header_of s) ≡ true

-- two of them that carry one write: the extras may have any layout, and all else is the same
pub record OneWrite (s s' : List ℕ) : Type 0 where
  pub opcode : (header_of s).opcode ≡ (header_of s').opcode
  pub vbucket : (header_of s).vbucket ≡ (header_of s').vbucket
  pub opaque : (header_of s).opaque ≡ (header_of s').opaque
  pub cas : (header_of s).cas ≡ (header_of s').cas
  pub write : with_meta (extras_in s) ≡ with_meta (extras_in s')
  pub key : key_in s ≡ key_in s'
  pub value : value_in s ≡ value_in s'

-- the same answer, but for the bytes consumed
pub record SameAnswer (r r' : Served) : Type 0 where
  pub outcome : served_outcome r ≡ served_outcome r'
  pub status : served_status r ≡ served_status r'
  pub reply : served_length r ≡ served_length r'
  pub needed : served_needed r ≡ served_needed r'

-- answered alike, with the same bytes of table and reply left. It rules out a store that compares, stores or answers a write by its layout
pub record ServedAlike (config : Config) (b : List ℕ) (clock : ℕ) (s s' out : List ℕ) : Type 0 where
  pub answer : SameAnswer (served config b clock s (length out)) (served config b clock s' (length out))
  pub table : served_table config b clock s (length out) ≡ served_table config b clock s' (length out)
  pub reply : served_reply config b clock s out ≡ served_reply config b clock s' out

abbrev pub EitherLayout : Config → Type 0
EitherLayout config = (b : List ℕ) (clock : ℕ) (s s' out : List ℕ) → RightForm s → RightForm s' → OneWrite s s' → ServedAlike config b clock s s' out

-- "No options fit in it, so it is 0x04 in last-write-wins.": whatever else the frame has, its form and its nru too. It rules out a store that takes the nru for an option
abbrev pub FormerRefused : Config → Type 0
FormerRefused config =
    (b : List ℕ) (clock : ℕ) (s : List ℕ) (room : ℕ) → sound_by config b ≡ true → 1302 ≤ room → mode_at b ≡ LastWrite
    → gate_of s ≡ Whole (header_of s) → among (opcode s) with_metas ≡ true → (header_of s).extlen ≡ 25
    → served_status (served config b clock s room) ≡ 0x04
