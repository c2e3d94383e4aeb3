-- What every row and the header keep, whatever the order of rows: document 01's damage rule, but for equal keys.
use Rattle.std.specs.Prelude.{ℕ, ◌+◌, ◌*◌, List, [], ◌∷◌, Bool, true, ◌&&◌, ◌||◌, cond, drop, eqb, leb}
use Rattle.octets.specs.Compare.{zeros}
use Rattle.document.specs.declared.Head.{Head}
use Rattle.rows.specs.declared.Slot.{Slot}
use Rattle.rows.specs.Row.{slot_of}

-- the size of a table of 1 to 256 rows
unfoldable pub size_ok : ℕ → ℕ → Bool
size_ok len n = leb 1 n && (leb n 256 && eqb len (16 + n * 1312))

-- state 1 to 4, mode 1 or 2; any vbucket, kept clock and mark
unfoldable pub head_ok : Head → Bool
head_ok h = (leb 1 h.state && leb h.state 4) && (leb 1 h.mode && leb h.mode 2)

-- a document, or "A tombstone has no value, flags 0, expiry 0."
abbrev pub kind_ok : Slot → Bool
kind_ok s = eqb s.kind 1 || (eqb s.kind 2 && (eqb s.vallen 0 && (eqb s.numbers.flags 0 && eqb s.numbers.expiry 0)))

-- "A used row has a key (1 to 250 bytes), value (0 to 1,024)"; CAS from 1 to the mark
unfoldable pub used_ok : ℕ → Slot → Bool
used_ok mark s =
    kind_ok s
    && (leb 1 s.keylen
    && (leb s.keylen 250
    && (leb s.vallen 1024
    && (leb 1 s.numbers.cas.0
    && leb s.numbers.cas.0 mark))))

-- "Unused bytes are zero": all of a free row, and what follows key and value
unfoldable pub row_sound : ℕ → List ℕ → Bool
unfolding used_ok
row_sound mark r = cond (eqb (slot_of r).kind 0) (zeros r) (used_ok mark (slot_of r) && zeros (drop (32 + ((slot_of r).keylen + (slot_of r).vallen)) r))

abbrev pub all_sound : ℕ → List (List ℕ) → Bool
all_sound mark [] = true
all_sound mark (r ∷ rs) = row_sound mark r && all_sound mark rs
