-- The extended meta section: "a version byte of 1, then fields of one-byte id and two-byte length. Ids 1 and 2 are ignored; another version or id, a cut field" is wrong.
use Rattle.std.specs.Prelude.{ℕ, zero, suc, ◌+◌, ◌-◌, List, Bool, true, false, ◌&&◌, ◌||◌, cond, length, drop, leb, eqb}
use Rattle.octets.specs.BigEndian.{num}

-- a field's head stands there whole, its id is 1 or 2, and its bytes follow
unfoldable pub field_ok : List ℕ → Bool
field_ok l = leb 3 (length l) && ((eqb (num l 0 1) 1 || eqb (num l 0 1) 2) && leb (num l 1 2) (length l - 3))

-- how far the next field is
unfoldable pub field_size : List ℕ → ℕ
field_size l = 3 + num l 1 2

-- fields one after the other to the end, counted down by a number over the length, which never comes to 0 (proofs/SectionLaws.antt, enough)
unfoldable pub walk : ℕ → List ℕ → Bool
unfolding field_ok field_size
walk zero l = false
walk (suc f) l = cond (eqb (length l) 0) true (cond (field_ok l) (walk f (drop (field_size l) l)) false)

unfoldable pub fields_ok : List ℕ → Bool
unfolding walk
fields_ok l = walk (suc (length l)) l

-- "Length 0 means none."
unfoldable pub section_ok : List ℕ → Bool
unfolding fields_ok
section_ok l = eqb (length l) 0 || (eqb (num l 0 1) 1 && fields_ok (drop 1 l))
