-- Order 6, the trace of a voyage: "A trace opens with one byte of mode (1 revision, 2 last-write-wins) and two of vbucket, then is a run of fields, one-byte tag and two-byte length (numbers big-endian here and later)".
-- Order 9, its rule of force: "a trace replays under the new rule exactly if its first field is tag 5 with one byte of 2; a 1 there means the old, which differs for option 0x01 alone. Any other tag 5 stops it."
use Rattle.std.specs.Prelude.{ℕ, zero, suc, ◌+◌, List, [], ◌∷◌, Bool, true, false, cond, not, ◌&&◌, ◌||◌, length, drop, ltb, eqb, Option, Some, None}
use Rattle.octets.specs.Parts.{part}
use Rattle.octets.specs.BigEndian.{num}
use Rattle.trace.specs.declared.Opening.{Opening}
use Rattle.trace.specs.declared.Field.{Field}
use Rattle.trace.specs.declared.Field.TheVariants.{Clock, Frame, Reply, Purge, Rule}

-- "a bad opening or a trace over 65,536 bytes": under three bytes, or a mode that isn't 1 or 2
unfoldable pub opening_of : List ℕ → Option Opening
opening_of s =
    cond (ltb 65536 (length s)) None
    (cond (ltb (length s) 3) None
    (cond (eqb (num s 0 1) 1 || eqb (num s 0 1) 2) (Some (record { mode = (num s 0 1); vbucket = (num s 1 2) })) None))

-- ---- a field, in the bytes of a trace from its tag on
-- the length that it says
abbrev pub length_in : List ℕ → ℕ
length_in s = num s 1 2

-- the bytes that it holds
abbrev pub bytes_held : List ℕ → List ℕ
bytes_held s = part s 3 (length_in s)

-- "tag 5 with one byte of 2": force is not taken; "a 1 there means the old": it is
abbrev pub rule_by : ℕ → Option Field
rule_by n = cond (eqb n 1) (Some (Rule true)) (cond (eqb n 2) (Some (Rule false)) None)

-- "tag 1 clock (4 bytes), tag 2 one request frame, tag 3 the reply expected for the frame before it, tag 4 a purge bound (8 bytes)"; "An unknown tag [..], wrong length"
unfoldable pub field_by : ℕ → ℕ → List ℕ → Option Field
field_by tag len s =
    cond (eqb tag 1 && eqb len 4) (Some (Clock (num s 3 4)))
    (cond (eqb tag 2) (Some (Frame len))
    (cond (eqb tag 3) (Some (Reply len))
    (cond (eqb tag 4 && eqb len 8) (Some (Purge (record { 0 = num s 3 8 })))
    (cond (eqb tag 5 && eqb len 1) (rule_by (num s 3 1)) None))))

-- "a cut field"
unfoldable pub field_of : List ℕ → Option Field
unfolding field_by
field_of s = cond (ltb (length s) 3) None (cond (ltb (length s) (3 + length_in s)) None (field_by (num s 0 1) (length_in s) s))

-- the rule of a trace, wherever it stands
abbrev pub is_rule : Option Field → Bool
is_rule (Some (Rule forcing)) = true
is_rule (Some (Clock n)) = false
is_rule (Some (Frame len)) = false
is_rule (Some (Reply len)) = false
is_rule (Some (Purge bound)) = false
is_rule None = false

-- the field at a place: a rule is the first field, whose place is 3. "Any other tag 5 stops it."
unfoldable pub field_at : ℕ → List ℕ → Option Field
unfolding field_of
field_at at s = cond (not (eqb at 3) && is_rule (field_of s)) None (field_of s)

-- whether force is taken by a trace whose first field this is: "under the new rule exactly if its first field is tag 5 with one byte of 2"
abbrev pub forcing_by : Option Field → Bool
forcing_by (Some (Rule forcing)) = forcing
forcing_by (Some (Clock n)) = true
forcing_by (Some (Frame len)) = true
forcing_by (Some (Reply len)) = true
forcing_by (Some (Purge bound)) = true
forcing_by None = true

unfoldable pub forcing_in : List ℕ → Bool
unfolding field_of
forcing_in trace = forcing_by (field_of (drop 3 trace))

-- ---- the fields of a trace
-- "A place is the offset of a field's tag"
pub record Placed : Type 0 where
  pub at : ℕ
  pub field : Option Field
  pub bytes : List ℕ

abbrev pub is_broken : Option Field → Bool
is_broken None = true
is_broken (Some (Clock n)) = false
is_broken (Some (Frame len)) = false
is_broken (Some (Reply len)) = false
is_broken (Some (Purge bound)) = false
is_broken (Some (Rule forcing)) = false

abbrev pub placed_at : ℕ → List ℕ → Placed
placed_at at s = record { at = at; field = field_at at s; bytes = bytes_held s }

-- at most n fields, from a place on; a broken one is the last
unfoldable pub placed_from : ℕ → ℕ → List ℕ → List Placed
placed_from zero at s = []
placed_from (suc n) at [] = []
placed_from (suc n) at (x ∷ xs) =
    let s = x ∷ xs in
    placed_at at s ∷ cond (is_broken (field_at at s)) [] (placed_from n (at + (3 + length_in s)) (drop (3 + length_in s) s))

-- a field takes three bytes at least, so there are no more fields than bytes
unfoldable pub fields_from : ℕ → List ℕ → List Placed
unfolding placed_from
fields_from at s = placed_from (length s) at s

abbrev pub fields_in : List ℕ → List Placed
fields_in trace = fields_from 3 (drop 3 trace)
