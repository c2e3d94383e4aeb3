-- Laws of specs/Section.antt: the walk over the fields of an extended meta section, one field at a time.
use Prim.Native.Nat.{ℕ, zero, suc, ◌-◌, ◌≤◌, ◌<◌}
use mathlib.Core.Path.{◌≡◌, refl, ◌∙◌}
use mathlib.Core.List.{List, []}
use mathlib.Core.Bool.{true, false, ◌&&◌, ◌||◌, cond}
use native.Mathlib.Omega.{arith}
use lib.ListN.{length, drop, length-drop}
use lib.Dec.{leb, eqb}
use borrow.Author.Tests.{ne_eqb, eqb-false, leb-true}
use Rattle.octets.specs.BigEndian.{num}
use Rattle.octets.proofs.Choices.{cases, both}
use Rattle.with_meta.specs.Section.{field_ok, field_size, walk, fields_ok}

size-least : (l : List ℕ) → 1 ≤ field_size l
unfolding field_size
size-least l = omega arith

-- the count is never used up: any two that are over the length give the same
pub enough : (f g : ℕ) (l : List ℕ) → length l < f → length l < g → walk f l ≡ walk g l
unfolding walk
enough zero g l h k = absurd (omega arith)
enough (suc f) zero l h k = absurd (omega arith)
enough (suc f) (suc g) l h k =
    cases (eqb (length l) 0)
    (λ z. rw z)
    (λ z. let e = length-drop (field_size l) l in
    let some = eqb-false (length l) 0 z in
    rw (enough f g (drop (field_size l) l) (omega (arith, e, size-least l)) (omega (arith, e, size-least l))))

pub fields-end : fields_ok [] ≡ true
unfolding fields_ok walk
fields-end = refl

module _ (l : List ℕ) (some : 0 < length l) where
  fields-law : fields_ok l ≡ cond (field_ok l) (fields_ok (drop (field_size l) l)) false
  unfolding fields_ok walk
  fields-law =
      let e = length-drop (field_size l) l in
      rw (ne_eqb (length l) 0 (λ z. omega arith), enough (length l) (suc (length (drop (field_size l) l))) (drop (field_size l) l) (omega (arith, e, size-least l)) (omega arith))

  pub fields-next : field_ok l ≡ true → fields_ok l ≡ fields_ok (drop (field_size l) l)
  fields-next e = fields-law ∙ rw e

  pub fields-stop : field_ok l ≡ false → fields_ok l ≡ false
  fields-stop e = fields-law ∙ rw e

-- a field ends within the bytes
pub field-inside : (l : List ℕ) → field_ok l ≡ true → field_size l ≤ length l
unfolding field_ok field_size
field-inside l e =
    let p = both (leb 3 (length l)) ((eqb (num l 0 1) 1 || eqb (num l 0 1) 2) && leb (num l 1 2) (length l - 3)) e in
    let q = both (eqb (num l 0 1) 1 || eqb (num l 0 1) 2) (leb (num l 1 2) (length l - 3)) p.1 in
    omega (arith, leb-true 3 (length l) p.0, leb-true (num l 1 2) (length l - 3) q.1)
