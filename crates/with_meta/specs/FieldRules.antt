-- The "field rules, each 0x04" of a with-meta request, save option 0x02's, which needs the mode.
use Rattle.std.specs.Prelude.{ℕ, ◌-◌, ◌/◌, ◌%◌, List, Bool, ◌&&◌, ◌||◌, cond, length, drop, leb, eqb, Option, Some, None}
use Rattle.with_meta.specs.declared.WithMeta.{WithMeta}
use Rattle.with_meta.specs.declared.Stored.{Stored}
use Rattle.with_meta.specs.declared.Stored.TheVariants.{Document, Tombstone}
use Rattle.with_meta.specs.Section.{section_ok}

-- the largest CAS and revision that a request carries
abbrev pub largest_number : ℕ
largest_number = 0xfffffffeffffffff

-- "CAS outside 1 to 0xfffffffeffffffff; revision over that; option bits other than 0x0f; 0x04 without 0x08"
unfoldable pub numbers_ok : WithMeta → Bool
numbers_ok w =
    leb 1 w.numbers.cas.0
    && (leb w.numbers.cas.0 largest_number
    && (leb w.numbers.revision.0 largest_number
    && (leb w.options 0x0f
    && (eqb (w.options / 4 % 2) 0 || eqb (w.options / 8 % 2) 1))))

-- the number of what is stored, as a shape's meta has it, 0 for another command's
abbrev pub stored_number : Stored → ℕ
stored_number Document = 1
stored_number Tombstone = 2

abbrev pub meta_number : Option Stored → ℕ
meta_number None = 0
meta_number (Some stored) = stored_number stored

-- what a number says is stored: nothing, where it is none of those two
abbrev pub stored_of : ℕ → Option Stored
stored_of n = cond (eqb n 1) (Some Document) (cond (eqb n 2) (Some Tombstone) None)

-- "for Set and Add, no value byte before the extended meta; for Delete, such a byte, or flags or expiry not 0", n being the bytes before it
unfoldable pub body_ok : ℕ → WithMeta → ℕ → Bool
body_ok meta w n =
    (eqb meta 1 && leb 1 n)
    || (eqb meta 2 && (eqb n 0 && (eqb w.numbers.flags 0 && eqb w.numbers.expiry 0)))

-- the field rules of a with-meta request, meta being its shape's; "a section longer than what follows the key"
unfoldable pub with_meta_ok : ℕ → WithMeta → List ℕ → Bool
unfolding numbers_ok body_ok
with_meta_ok meta w value =
    leb w.section (length value)
    && (numbers_ok w
    && (body_ok meta w (length value - w.section)
    && section_ok (drop (length value - w.section) value)))
