-- What a whole frame's parts, cut out of it, ask for, against the field rules and the definition on the frame.
use Prim.Native.Nat.{ℕ, ◌+◌, ◌-◌, ◌≤◌}
use mathlib.Core.Path.{◌≡◌, refl, sym, ap, ◌∙◌}
use mathlib.Core.Bool.{Bool, true, false, not, ◌&&◌}
use mathlib.Core.Logic.{◌⊎◌, inl, inr, ⊎_elim}
use mathlib.Core.List.{List}
use native.Mathlib.Nat.{sub-zero}
use native.Mathlib.Omega.{arith}
use lib.ListN.{length}
use lib.Dec.{eqb}
use lib.Seq.{take-take}
use borrow.Author.Tests.{eqb-true, eqb-false}
use Rattle.octets.specs.Parts.{part}
use Rattle.octets.proofs.Choices.{cond-elim}
use Rattle.octets.proofs.Lists.{part_length}
use Rattle.shape.specs.Shapes.{Shape, commands, shape_of}
use Rattle.shape.proofs.ShapeLaws.{same_shape}
use Rattle.header.specs.declared.Header.{Header}
use Rattle.with_meta.specs.WithMeta.{with_meta}
use Rattle.with_meta.specs.FieldRules.{with_meta_ok}
use Rattle.rules.specs.Rules.{meta_size, count_of, count_ok, is_forced, forces, field_rules_ok, field_status}
use Rattle.rules.proofs.RuleLaws.{rules-count, rules-meta, rules-plain, field-broken}
use Rattle.request.specs.Reading.{extras_span, value_span, bytes_in}
use Rattle.commands.specs.declared.Instruction.{Instruction}
use Rattle.decision.specs.Decide.{instruction_of}
use Rattle.decode.specs.declared.Family.{Family}
use Rattle.decode.specs.declared.Family.TheVariants.{Bare, Stored, Counted, Carried, Listed, Touched}
use Rattle.std.specs.Prelude.{Option, Some, None}
use Rattle.decode.specs.Decode.{family_of, command_by, command_of, bare_value, instruction_with, decoded_status, list_decoded, meta_decoded, decoded_as, decoded_by, request_of}

-- which of the two it is, and the ask of one that has one
told : Option Instruction → ℕ
told None = 0
told (Some a) = 1

ask_in : Instruction → Option Instruction → Instruction
ask_in other None = other
ask_in other (Some a) = a

-- a shape's meta is 0 unless its command is with meta
plainly : Family → Bool
plainly (Bare c) = true
plainly (Stored k) = true
plainly (Counted up) = true
plainly (Carried k) = false
plainly Listed = true
plainly (Touched shown) = true

-- the rule on a count is a listing's alone
counted : Family → List ℕ → Bool
counted (Bare c) extras = true
counted (Stored k) extras = true
counted (Counted up) extras = true
counted (Carried k) extras = true
counted Listed extras = not (eqb (count_of extras) 0)
counted (Touched shown) extras = true

metas : (op : ℕ) → eqb (shape_of op).meta 0 ≡ plainly (family_of (shape_of op).operation)
unfolding commands plainly
metas op = same_shape (λ (s : Shape). eqb s.meta 0) (λ (s : Shape). plainly (family_of s.operation)) op refl

counts : (op : ℕ) (extras : List ℕ) → count_ok (shape_of op).extras extras ≡ counted (family_of (shape_of op).operation) extras
unfolding commands counted
counts op extras = same_shape (λ (s : Shape). count_ok s.extras extras) (λ (s : Shape). counted (family_of s.operation) extras) op refl

module _ (forcing : Bool) (s : Shape) (h : Header) (extras value : List ℕ) where
  abbrev made : Family → ℕ → Bool → Instruction
  made f n unsupported = instruction_with s h (command_by f extras) n unsupported

  -- what is whole is a plain command, or one with meta whose field rules are kept; a count is kept by both
  by-family {ℓ} : {X : Type ℓ} (f : Family) (a : Instruction) → decoded_as forcing f s h extras value ≡ Some a
      → (plainly f ≡ true → counted f extras ≡ true → made f (length value) false ≡ a → X)
      → (plainly f ≡ false → counted f extras ≡ true → with_meta_ok s.meta (with_meta extras) value ≡ true
      → made f (length value - (with_meta extras).section) (is_forced (with_meta extras) && not forcing) ≡ a → X)
      → X
  unfolding list_decoded meta_decoded plainly counted told ask_in
  by-family (Bare c) a e p m = p refl refl (ap (ask_in a) e)
  by-family (Stored k) a e p m = p refl refl (ap (ask_in a) e)
  by-family (Counted up) a e p m = p refl refl (ap (ask_in a) e)
  by-family (Touched shown) a e p m = p refl refl (ap (ask_in a) e)
  by-family (Carried k) a e p m =
      cond-elim (with_meta_ok s.meta (with_meta extras) value) _ _ _ e
      (λ u z. m refl refl u (ap (ask_in a) z))
      (λ u z. absurd (omega (arith, ap told z)))
  by-family Listed a e p m =
      cond-elim (eqb (count_of extras) 0) _ _ _ e
      (λ u z. absurd (omega (arith, ap told z)))
      (λ u z. p refl (rw u) (ap (ask_in a) z))

  -- what is broken is a listing of no keys, or one with meta whose field rules are not kept
  broken : (f : Family) → decoded_as forcing f s h extras value ≡ None
      → (counted f extras ≡ false) ⊎ ((plainly f ≡ false) × (counted f extras ≡ true) × (with_meta_ok s.meta (with_meta extras) value ≡ false))
  unfolding list_decoded meta_decoded plainly counted told
  broken (Bare c) e = absurd (omega (arith, ap told e))
  broken (Stored k) e = absurd (omega (arith, ap told e))
  broken (Counted up) e = absurd (omega (arith, ap told e))
  broken (Touched shown) e = absurd (omega (arith, ap told e))
  broken (Carried k) e =
      cond-elim (with_meta_ok s.meta (with_meta extras) value) _ _ _ e
      (λ u z. absurd (omega (arith, ap told z)))
      (λ u z. inr (refl, refl, u))
  broken Listed e =
      cond-elim (eqb (count_of extras) 0) _ _ _ e
      (λ u z. inl (rw u))
      (λ u z. absurd (omega (arith, ap told z)))

module _ (forcing : Bool) (h : Header) (extras value : List ℕ) where
  abbrev shape : Shape
  shape = shape_of h.opcode

  abbrev family : Family
  family = family_of shape.operation

  -- broken, so it breaks the field rules, whose status is the answer's
  pub asked-breaks : decoded_by forcing shape h extras value ≡ None → field_rules_ok shape extras value ≡ false
  unfolding decoded_by
  asked-breaks e =
      ⊎_elim
      (λ c. rules-count shape extras value (counts h.opcode extras ∙ c))
      (λ (t, c, u). rules-meta shape extras value (counts h.opcode extras ∙ c) (eqb-false shape.meta 0 (metas h.opcode ∙ t)) ∙ u)
      (broken forcing shape h extras value family e)

  pub asked-broken : decoded_by forcing shape h extras value ≡ None → field_status shape extras value ≡ decoded_status None
  asked-broken e = field-broken shape extras value (asked-breaks e)

  by_kind {ℓ} : {X : Type ℓ} (a : Instruction) → decoded_by forcing shape h extras value ≡ Some a
      → (eqb shape.meta 0 ≡ true → count_ok shape.extras extras ≡ true → instruction_with shape h (command_of shape.operation extras) (length value) false ≡ a → X)
      → (eqb shape.meta 0 ≡ false → count_ok shape.extras extras ≡ true → with_meta_ok shape.meta (with_meta extras) value ≡ true
      → instruction_with shape h (command_of shape.operation extras) (length value - (with_meta extras).section) (is_forced (with_meta extras) && not forcing) ≡ a → X)
      → X
  unfolding decoded_by command_of
  by_kind a e p m =
      by-family forcing shape h extras value family a e
      (λ t c z. p (metas h.opcode ∙ t) (counts h.opcode extras ∙ c) z)
      (λ t c u z. m (metas h.opcode ∙ t) (counts h.opcode extras ∙ c) u z)

  pub asked-goes : (a : Instruction) → decoded_by forcing shape h extras value ≡ Some a → field_rules_ok shape extras value ≡ true
  asked-goes a e =
      by_kind a e
      (λ t c z. rules-plain shape extras value c (eqb-true shape.meta 0 t))
      (λ t c u z. rules-meta shape extras value c (eqb-false shape.meta 0 t) ∙ u)

  plain_size : eqb shape.meta 0 ≡ true → length value ≡ length value - meta_size shape extras
  unfolding meta_size
  plain_size t = rw t (sym (sub-zero (length value)))

  plain-supported : eqb shape.meta 0 ≡ true → false ≡ (forces shape extras && not forcing)
  unfolding forces
  plain-supported t = rw t

  meta-size : eqb shape.meta 0 ≡ false → length value - (with_meta extras).section ≡ length value - meta_size shape extras
  unfolding meta_size with_meta
  meta-size t = rw t

  meta-supported : eqb shape.meta 0 ≡ false → (is_forced (with_meta extras) && not forcing) ≡ (forces shape extras && not forcing)
  unfolding forces
  meta-supported t = rw t

  -- the ask is of the definition's command, and of what is left of the value
  asked-with : (a : Instruction) → decoded_by forcing shape h extras value ≡ Some a
      → a ≡ instruction_with shape h (command_of shape.operation extras) (length value - meta_size shape extras) (forces shape extras && not forcing)
  unfolding meta_size forces with_meta
  asked-with a e =
      let with : ℕ → Bool → Instruction = λ n u. instruction_with shape h (command_of shape.operation extras) n u in
      by_kind a e
      (λ t c z. sym z ∙ (λ i. with (plain_size t i) (plain-supported t i)))
      (λ t c u z. sym z ∙ (λ i. with (meta-size t i) (meta-supported t i)))

module _ (forcing : Bool) (s : List ℕ) (h : Header) (whole : 24 + h.body ≤ length s) (inside : h.extlen + h.keylen ≤ h.body) where
  abbrev extras : List ℕ
  extras = bytes_in s (extras_span h)

  abbrev value : List ℕ
  value = bytes_in s (value_span h)

  abbrev len : ℕ
  len = (value_span h).len

  abbrev left : ℕ
  left = len - meta_size (shape_of h.opcode) extras

  fits : (n : ℕ) → n ≤ len → length (part s (value_span h).at n) ≡ n
  unfolding value_span
  fits n l = part_length s (value_span h).at n (omega arith)

  sized : length value - meta_size (shape_of h.opcode) extras ≡ left
  sized = ap (λ (n : ℕ). n - meta_size (shape_of h.opcode) extras) (fits len (omega arith))

  module _ (a : Instruction) (e : decoded_by forcing (shape_of h.opcode) h extras value ≡ Some a) where
    abbrev asks : ℕ → Instruction
    asks n = instruction_with (shape_of h.opcode) h (command_of (shape_of h.opcode).operation extras) n (forces (shape_of h.opcode) extras && not forcing)

    pub asked-whole : a ≡ instruction_of (request_of forcing s h)
    unfolding request_of bare_value
    asked-whole = asked-with forcing h extras value a e ∙ ap asks (sized ∙ sym (fits left (omega arith)))

    pub asked-value : part value 0 a.size ≡ bare_value s h
    unfolding bare_value
    asked-value = rw (ap (λ (x : Instruction). x.size) (asked-with forcing h extras value a e) ∙ sized, take-take left len _ (omega arith))
