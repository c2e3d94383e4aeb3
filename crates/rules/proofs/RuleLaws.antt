-- What the rules say of a request, and what a status of 0 does.
use Prim.Native.Nat.{ℕ, ◌+◌, ◌≤◌}
use mathlib.Core.Path.{◌≡◌}
use mathlib.Core.Logic.{⊎_elim}
use mathlib.Core.List.{List}
use mathlib.Core.Bool.{true, false, not, ◌&&◌, ◌||◌, cond}
use native.Mathlib.Nat.{sub-zero}
use native.Mathlib.Omega.{arith}
use lib.ListN.{length}
use lib.Dec.{ltb, leb, eqb}
use borrow.Author.Tests.{leb-true, eqb-true, eqb-false, eq-eqb, ne_eqb, not-true, not-false}
use Rattle.octets.proofs.Choices.{cases, cond-elim, both, either}
use Rattle.std.specs.Prelude.{Option, None}
use Rattle.shape.specs.Shapes.{Shape, key_of, shape_of}
use Rattle.header.specs.declared.Header.{Header}
use Rattle.with_meta.specs.declared.Stored.{Stored}
use Rattle.with_meta.specs.declared.WithMeta.{WithMeta}
use Rattle.with_meta.specs.WithMeta.{with_meta}
use Rattle.with_meta.specs.FieldRules.{meta_number, stored_of, with_meta_ok}
use Rattle.with_meta.proofs.StoredLaws.{told-ok}
use Rattle.rules.specs.Rules.{extras_ok, key_ok, form_ok, count_ok, meta_size, field_rules_ok, keeps_rules, forces, form_status, meta_status, field_status, judged, status}

-- a request that keeps the rules of statuses 1 and 2 is of a built command, in a right form
pub built : (s : Shape) (h : Header) (extras value : List ℕ) → keeps_rules s h extras value ≡ true → s.status ≡ 0
unfolding keeps_rules
built s h extras value e = eqb-true s.status 0 (both (eqb s.status 0) _ e).0

pub formed : (s : Shape) (h : Header) (extras value : List ℕ) → keeps_rules s h extras value ≡ true → form_ok s h ≡ true
unfolding keeps_rules
formed s h extras value e = (both (form_ok s h) _ (both (eqb s.status 0) _ e).1).0

pub field-rules : (s : Shape) (h : Header) (extras value : List ℕ) → keeps_rules s h extras value ≡ true → field_rules_ok s extras value ≡ true
unfolding keeps_rules
field-rules s h extras value e = (both (form_ok s h) _ (both (eqb s.status 0) _ e).1).1

-- one with status 0 keeps them
pub judged-keeps : (s : Shape) (h : Header) (extras value : List ℕ) → judged s h extras value ≡ 0 → keeps_rules s h extras value ≡ true
unfolding judged keeps_rules
judged-keeps s h extras value e =
    cond-elim (not (eqb s.status 0)) _ _ _ e
    (λ t z. absurd (eqb-false s.status 0 (not-true _ t) z))
    (λ t e₁. cond-elim (not (form_ok s h)) _ _ _ e₁ (λ u z. absurd (omega arith))
    (λ u e₂. cond-elim (not (field_rules_ok s extras value)) _ _ _ e₂ (λ v z. absurd (omega arith))
    (λ v z. rw (not-false (eqb s.status 0) t, not-false (form_ok s h) u, not-false (field_rules_ok s extras value) v))))

module _ (s : Shape) (h : Header) (f : form_ok s h ≡ true) where
  parts : leb (h.extlen + h.keylen) h.body ≡ true
  unfolding form_ok
  parts = (both (leb (h.extlen + h.keylen) h.body) _ (both (eqb h.datatype 0) _ f).1).0

  formed-parts : h.extlen + h.keylen ≤ h.body
  formed-parts = leb-true (h.extlen + h.keylen) h.body parts

  formed-key : h.keylen ≤ 250
  unfolding form_ok
  formed-key =
      let k = h.keylen in
      let a = both (eqb h.datatype 0) _ f in
      let b = both (leb (h.extlen + k) h.body) _ a.1 in
      let c = both (extras_ok s.extras h.extlen) _ b.1 in
      let d = both (key_ok s.key k) _ c.1 in
      ⊎_elim
      (λ z. omega (arith, eqb-true k 0 (both (eqb s.key 0) (eqb k 0) z).1))
      (λ y. ⊎_elim
      (λ z. leb-true k 250 (both (leb 1 k) (leb k 250) (both (eqb s.key 1) (leb 1 k && leb k 250) z).1).1)
      (λ z. leb-true k 250 (both (eqb s.key 2) (leb k 250) z).1)
      (either (eqb s.key 1 && (leb 1 k && leb k 250)) (eqb s.key 2 && leb k 250) y))
      (either (eqb s.key 0 && eqb k 0) ((eqb s.key 1 && (leb 1 k && leb k 250)) || (eqb s.key 2 && leb k 250)) d.0)

-- extras and key end within the body
pub parts-inside : (h : Header) (extras value : List ℕ) → status h extras value ≡ 0 → h.extlen + h.keylen ≤ h.body
unfolding status
parts-inside h extras value e =
    let s = shape_of h.opcode in
    formed-parts s h (formed s h extras value (judged-keeps s h extras value e))

pub key-most : (s : Shape) (h : Header) (extras value : List ℕ) → keeps_rules s h extras value ≡ true → h.keylen ≤ 250
key-most s h extras value e = formed-key s h (formed s h extras value e)

-- the header's rules come first, and the field rules decide where none of them applies
module _ (s : Shape) (h : Header) (e : form_status s h ≡ 0) where
  form-free : (eqb s.status 0 ≡ true) × (form_ok s h ≡ true)
  unfolding form_status
  form-free =
      cond-elim (not (eqb s.status 0)) _ _ _ e
      (λ t z. absurd (eqb-false s.status 0 (not-true _ t) z))
      (λ t e₁. cond-elim (not (form_ok s h)) _ _ _ e₁ (λ u z. absurd (omega arith)) (λ u z. (not-false _ t, not-false _ u)))

  pub judged-form : (extras value : List ℕ) → judged s h extras value ≡ field_status s extras value
  unfolding judged field_status
  judged-form extras value = rw (form-free.0, form-free.1)

  -- where they aren't broken, the request keeps the rules exactly if it keeps the field rules
  pub keeps-form : (extras value : List ℕ) → keeps_rules s h extras value ≡ field_rules_ok s extras value
  unfolding keeps_rules
  keeps-form extras value = rw (form-free.0, form-free.1)

  pub form-lengths : h.extlen + h.keylen ≤ h.body
  form-lengths = formed-parts s h form-free.1

  pub form-key : h.keylen ≤ 250
  form-key = formed-key s h form-free.1

pub judged-other : (s : Shape) (h : Header) (extras value : List ℕ) → (form_status s h ≡ 0 → ⊥) → judged s h extras value ≡ form_status s h
unfolding judged form_status
judged-other s h extras value e =
    cases (eqb s.status 0)
    (λ t. cases (form_ok s h) (λ u. absurd (e (rw (t, u)))) (λ u. rw (t, u)))
    (λ t. rw t)

-- a rule on the header that is broken is one that stops the request
pub form-stops : (s : Shape) (h : Header) (extras value : List ℕ) → (form_status s h ≡ 0 → ⊥) → keeps_rules s h extras value ≡ false
unfolding keeps_rules form_status
form-stops s h extras value e =
    cases (eqb s.status 0)
    (λ t. cases (form_ok s h) (λ u. absurd (e (rw (t, u)))) (λ u. rw (t, u)))
    (λ t. rw t)

-- the field rules of a listing, of a with-meta request, and of another
module _ (s : Shape) (extras value : List ℕ) where
  pub rules-count : count_ok s.extras extras ≡ false → field_rules_ok s extras value ≡ false
  unfolding field_rules_ok
  rules-count c = rw c

  pub rules-meta : count_ok s.extras extras ≡ true → (s.meta ≡ 0 → ⊥) → field_rules_ok s extras value ≡ with_meta_ok s.meta (with_meta extras) value
  unfolding field_rules_ok
  rules-meta c e = rw (c, ne_eqb s.meta 0 e)

  pub rules-plain : count_ok s.extras extras ≡ true → s.meta ≡ 0 → field_rules_ok s extras value ≡ true
  unfolding field_rules_ok
  rules-plain c e = rw (c, eq-eqb s.meta 0 e)

  -- and their statuses
  pub field-broken : field_rules_ok s extras value ≡ false → field_status s extras value ≡ 0x04
  unfolding field_status
  field-broken c = rw c

  pub field-meta : count_ok s.extras extras ≡ true → (s.meta ≡ 0 → ⊥) → field_status s extras value ≡ meta_status s.meta (with_meta extras) value
  unfolding field_status forces meta_size meta_status with_meta
  field-meta c e = rw (rules-meta c e, ne_eqb s.meta 0 e)

  pub field_plain : count_ok s.extras extras ≡ true → s.meta ≡ 0 → field_status s extras value ≡ cond (ltb 1024 (length value)) 0x03 0
  unfolding field_status forces meta_size
  field_plain c e = rw (rules-plain c e, eq-eqb s.meta 0 e, sub-zero (length value))

-- what a request stores, told from any number, has the number's status
pub status-told : (s : Option Stored) (n : ℕ) (w : WithMeta) (value : List ℕ) → s ≡ stored_of n → meta_status (meta_number s) w value ≡ meta_status n w value
unfolding meta_status
status-told s n w value e = rw (e, told-ok n w value)

-- by a number that is no key's, no length is right
pub no-key : (m n : ℕ) → None ≡ key_of m → key_ok m n ≡ false
no-key m n e =
    cases (eqb m 0)
    (λ z. let l = rw z at e in cc)
    (λ z. cases (eqb m 1) (λ y. let l = rw (z, y) at e in cc) (λ y. cases (eqb m 2) (λ x. let l = rw (z, y, x) at e in cc) (λ x. rw (z, y, x))))
