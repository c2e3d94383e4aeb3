-- A trace opens as its first three bytes say, and each field is what its tag, its length and its bytes spell.
use native.Mathlib.Omega.{arith}
use Prim.Native.Nat.{ℕ, zero, suc, ◌+◌, ◌≤◌, ◌<◌}
use mathlib.Core.Path.{◌≡◌, refl, sym, ap, subst, ◌∙◌}
use mathlib.Core.Bool.{Bool, true, false, cond, ◌&&◌, ◌||◌, false≢true}
use mathlib.Core.List.{List, [], ◌∷◌, ◌++◌}
use mathlib.Core.Logic.{◌⊎◌, inl, inr, ⊎_elim}
use Rattle.std.specs.Prelude.{Option, Some, None}
use lib.ListN.{length, take, drop, length-drop}
use lib.Dec.{ltb, eqb}
use lib.Seq.{drop-drop}
use borrow.Author.Tests.{ltb-true, ltb-false, eqb-true, eqb-false, le-ltb, eq-eqb, ne_eqb}
use Rattle.engine.specs.declared.Config.{Config}
use Rattle.octets.specs.Parts.{part}
use Rattle.octets.specs.BigEndian.{be, num}
use Rattle.octets.proofs.Choices.{cases, both}
use Rattle.trace.specs.declared.Field.{Field}
use Rattle.trace.specs.declared.Field.TheVariants.{Clock, Frame, Reply, Purge, Rule}
use Rattle.trace.specs.Trace.{Placed, opening_of, length_in, bytes_held, rule_by, field_by, field_of, is_rule, field_at, is_broken, placed_from, fields_from, fields_in}
use Rattle.trace.proofs.Modes.{mode-known, known-mode}
use Rattle.replay.specs.Replay.{Ending, Damaged, Differs, Stopped, Replayed, ruled_by, replayed}
use Rattle.voyages.specs.Serving.{EndsAt}
use Rattle.voyages.specs.Spelling.{WellOpened, BadOpeningStops, OtherSizeRefused, ReplayServes, said_at, tag_at, WholeAt, RuleAt, SpeltAt, NextOf, SpeltFrom, FieldsSpelt, EndsWithin, PlacesWithin}
use Rattle.voyages.proofs.Serving.{opened-serves}

-- ---- the opening
pub opening-read : (trace : List ℕ) → WellOpened trace → opening_of trace ≡ Some (record { mode = (num trace 0 1); vbucket = (num trace 1 2) })
unfolding opening_of
opening-read trace w =
    rw (le-ltb 65536 (length trace) w.most, le-ltb (length trace) 3 w.least, known-mode (num trace 0 1) w.mode) refl

pub opened-or-not : (trace : List ℕ) → WellOpened trace ⊎ (opening_of trace ≡ None)
unfolding opening_of
opened-or-not trace =
    cases (ltb 65536 (length trace)) (λ t. inr (rw t refl))
    (λ t. cases (ltb (length trace) 3) (λ u. inr (rw (t, u) refl))
    (λ u. cases (eqb (num trace 0 1) 1 || eqb (num trace 0 1) 2)
    (λ v. inl (record {
      least = ltb-false _ _ u;
      most = ltb-false _ _ t;
      mode = mode-known (num trace 0 1) v;
    }))
    (λ v. inr (rw (t, u, v) refl))))

pub unopened : (config : Config) (b trace : List ℕ) → length b ≡ 42000 → opening_of trace ≡ None
    → ((replayed config b trace).answer ≡ Stopped 0) × ((replayed config b trace).table ≡ b)
unfolding replayed
unopened config b trace n e = rw (eq-eqb (length b) 42000 n, e) (refl, refl)

pub bad-opening-stops : (config : Config) → BadOpeningStops config
bad-opening-stops config b trace n f = unopened config b trace n (⊎_elim (λ w. absurd (f w)) (λ e. e) (opened-or-not trace))

pub other-size-refused : (config : Config) → OtherSizeRefused config
unfolding replayed
other-size-refused config b trace f = rw (ne_eqb (length b) 42000 f) (refl, refl)

pub replay-serves : (config : Config) → ReplayServes config
replay-serves config b trace n w = opened-serves config b trace (num trace 0 1) (num trace 1 2) n (opening-read trace w)

-- ---- what is read from a place on, counted from the trace's start
module _ (trace : List ℕ) (at : ℕ) where
  part-on : (k n : ℕ) → part (drop at trace) k n ≡ part trace (at + k) n
  part-on k n = ap (take n) (drop-drop k at trace)

  length-on : length_in (drop at trace) ≡ num trace (at + 1) 2
  length-on = ap be (part-on 1 2)

  held_on : bytes_held (drop at trace) ≡ part trace (at + 3) (num trace (at + 1) 2)
  held_on = part-on 3 (length_in (drop at trace)) ∙ ap (part trace (at + 3)) length-on

-- ---- one field
not-both : (a b : Bool) → (a && b) ≡ false → a ≡ true → b ≡ false
not-both true b e t = e
not-both false b e t = absurd (false≢true t)

unknown : (n : ℕ) → (n ≡ 1 → ⊥) → (n ≡ 2 → ⊥) → (n ≡ 3 → ⊥) → (n ≡ 4 → ⊥) → (n ≡ 5 → ⊥) → (n ≡ 0) ⊎ (5 < n)
unknown zero a b c d e = inl refl
unknown (suc zero) a b c d e = absurd (a refl)
unknown (suc (suc zero)) a b c d e = absurd (b refl)
unknown (suc (suc (suc zero))) a b c d e = absurd (c refl)
unknown (suc (suc (suc (suc zero)))) a b c d e = absurd (d refl)
unknown (suc (suc (suc (suc (suc zero))))) a b c d e = absurd (e refl)
unknown (suc (suc (suc (suc (suc (suc n)))))) a b c d e = inr (omega arith)

-- what holds of no fields, and of those that come after a field, holds of all after it
pub after : (P : List Placed → Type 0) → P [] → (f : Option Field) (ps : List Placed) (X : Type 0) → (X → P ps) → NextOf f ps X → P ps
after P end None ps X go e = subst P (sym e) end
after P end (Some (Clock n)) ps X go x = go x
after P end (Some (Frame len)) ps X go x = go x
after P end (Some (Reply len)) ps X go x = go x
after P end (Some (Purge bound)) ps X go x = go x
after P end (Some (Rule forcing)) ps X go x = go x

module _ (trace : List ℕ) where
  module _ (at : ℕ) where
    abbrev s : List ℕ
    s = drop at trace

    abbrev tag : ℕ
    tag = tag_at trace at

    said : length_in s ≡ said_at trace at
    said = length-on trace at

    -- no tag of an order, or a clock, a bound or a rule of another length
    refused : (eqb tag 1 && eqb (length_in s) 4) ≡ false → eqb tag 2 ≡ false → eqb tag 3 ≡ false → (eqb tag 4 && eqb (length_in s) 8) ≡ false
        → (eqb tag 5 && eqb (length_in s) 1) ≡ false → SpeltAt trace at None
    refused t u v w x =
        cases (eqb tag 1)
        (λ y. inr (inr (inl (inl (eqb-true _ _ y, λ n. eqb-false _ _ (not-both (eqb tag 1) (eqb (length_in s) 4) t y) (said ∙ n))))))
        (λ a. cases (eqb tag 4)
        (λ y. inr (inr (inl (inr (eqb-true _ _ y, λ n. eqb-false _ _ (not-both (eqb tag 4) (eqb (length_in s) 8) w y) (said ∙ n))))))
        (λ d. cases (eqb tag 5)
        (λ y. inr (inr (inr (record { tag = eqb-true _ _ y; other = λ f r. eqb-false _ _ (not-both (eqb tag 5) (eqb (length_in s) 1) x y) (said ∙ r.one) }))))
        (λ e. inr (inl (unknown tag (eqb-false _ _ a) (eqb-false _ _ u) (eqb-false _ _ v) (eqb-false _ _ d) (eqb-false _ _ e))))))

    -- a rule is spelt where it is the first field, and only by tag 5
    abbrev SpeltFirst : Option Field → Type 0
    SpeltFirst f = ((is_rule f ≡ true → at ≡ 3) → SpeltAt trace at f) × (is_rule f ≡ true → tag ≡ 5)

    other-field : (f : Option Field) → is_rule f ≡ false → SpeltAt trace at f → SpeltFirst f
    other-field f e x = ((λ y. x), λ t. absurd (false≢true (sym e ∙ t)))

    abbrev byte : ℕ
    byte = num s 3 1

    byte-on : byte ≡ num trace (at + 3) 1
    byte-on = ap be (part-on trace at 3 1)

    no-rule : eqb byte 1 ≡ false → eqb byte 2 ≡ false → (forcing : Bool) → RuleAt trace at forcing → ⊥
    no-rule a b true r = eqb-false _ _ a (byte-on ∙ r.rule)
    no-rule a b false r = eqb-false _ _ b (byte-on ∙ r.rule)

    by-rule : WholeAt trace at → tag ≡ 5 → said_at trace at ≡ 1 → SpeltFirst (rule_by byte)
    by-rule h t l =
        cases (eqb byte 1)
        (λ a. rw a ((λ y. (h, record { first = y refl; tag = t; one = l; rule = sym byte-on ∙ eqb-true _ _ a })), λ y. t))
        (λ a. cases (eqb byte 2)
        (λ b. rw (a, b) ((λ y. (h, record { first = y refl; tag = t; one = l; rule = sym byte-on ∙ eqb-true _ _ b })), λ y. t))
        (λ b. rw (a, b) (other-field None refl (inr (inr (inr (record { tag = t; other = no-rule a b })))))))

    by-tag : WholeAt trace at → SpeltFirst (field_by tag (length_in s) s)
    unfolding field_by
    by-tag h =
        cases (eqb tag 1 && eqb (length_in s) 4)
        (λ t. let k = both (eqb tag 1) (eqb (length_in s) 4) t in
        rw t (other-field (Some (Clock (num s 3 4))) refl (h, (eqb-true _ _ k.0, (sym said ∙ eqb-true _ _ k.1, ap be (part-on trace at 3 4))))))
        (λ t. cases (eqb tag 2) (λ u. rw (t, u) (other-field (Some (Frame (length_in s))) refl (h, (eqb-true _ _ u, said))))
        (λ u. cases (eqb tag 3) (λ v. rw (t, u, v) (other-field (Some (Reply (length_in s))) refl (h, (eqb-true _ _ v, said))))
        (λ v. cases (eqb tag 4 && eqb (length_in s) 8)
        (λ w. let k = both (eqb tag 4) (eqb (length_in s) 8) w in
        rw (t, u, v, w) (other-field (Some (Purge (record { 0 = num s 3 8 }))) refl (h, (eqb-true _ _ k.0, (sym said ∙ eqb-true _ _ k.1, ap be (part-on trace at 3 8))))))
        (λ w. cases (eqb tag 5 && eqb (length_in s) 1)
        (λ x. let k = both (eqb tag 5) (eqb (length_in s) 1) x in
        rw (t, u, v, w, x) (by-rule h (eqb-true _ _ k.0) (sym said ∙ eqb-true _ _ k.1)))
        (λ x. rw (t, u, v, w, x) (other-field None refl (refused t u v w x)))))))

    pub spelt-first : at ≤ length trace → SpeltFirst (field_of s)
    unfolding field_of
    spelt-first h =
        let k = length-drop at trace in
        cases (ltb (length s) 3)
        (λ t. rw t (other-field None refl (inl (inl (omega (arith, ltb-true (length s) 3 t, k))))))
        (λ t. cases (ltb (length s) (3 + length_in s))
        (λ u. rw (t, u) (other-field None refl (inl (inr (omega (arith, ltb-true (length s) (3 + length_in s) u, k, said))))))
        (λ u. rw (t, u) (by-tag (omega (arith, ltb-false (length s) (3 + length_in s) u, k, said, h)))))

    spelt : at ≤ length trace → SpeltAt trace at (field_at at s)
    unfolding field_at
    spelt h =
        let w = spelt-first h in
        cases (eqb at 3)
        (λ t. rw t (w.0 (λ y. eqb-true _ _ t)))
        (λ t. cases (is_rule (field_of s))
        (λ u. rw (t, u) (inr (inr (inr (record { tag = w.1 u; other = λ f r. eqb-false _ _ t r.first })))))
        (λ u. rw (t, u) (w.0 (λ y. absurd (false≢true (sym u ∙ y))))))

  -- ---- one after another
  next : (f : Option Field) (more : List Placed) (X : List Placed → Type 0) → X more → NextOf f (cond (is_broken f) [] more) (X (cond (is_broken f) [] more))
  next None more X x = refl
  next (Some (Clock n)) more X x = x
  next (Some (Frame len)) more X x = x
  next (Some (Reply len)) more X x = x
  next (Some (Purge bound)) more X x = x
  next (Some (Rule forcing)) more X x = x

  spelt-from : (n at : ℕ) (s : List ℕ) → s ≡ drop at trace → length s ≤ n → SpeltFrom trace at (placed_from n at s)
  unfolding placed_from
  spelt-from zero at s e h = omega (arith, h, ap length e, length-drop at trace)
  spelt-from (suc n) at [] e h = omega (arith, ap length e, length-drop at trace)
  spelt-from (suc n) at (x ∷ xs) e h =
      let s : List ℕ = x ∷ xs in
      let past = at + (3 + length_in s) in
      let k : length_in s ≡ said_at trace at = ap length_in e ∙ length-on trace at in
      let there : drop (3 + length_in s) s ≡ drop past trace = ap (drop (3 + length_in s)) e ∙ drop-drop (3 + length_in s) at trace in
      let less : length (drop (3 + length_in s) s) ≤ n = omega (arith, h, length-drop (3 + length_in s) s) in
      let more : List Placed = placed_from n past (drop (3 + length_in s) s) in
      let all : SpeltFrom trace past more = spelt-from n past (drop (3 + length_in s) s) there less in
      let inside : at < length trace = omega (arith, ap length e, length-drop at trace) in (
        inside,
        (
          refl,
          (
            subst (λ (z : List ℕ). SpeltAt trace at (field_at at z)) (sym e) (spelt at (omega (arith, inside))),
            (
              ap bytes_held e ∙ held_on trace at,
              next (field_at at s) more (SpeltFrom trace (at + (3 + said_at trace at))) (subst (λ (m : ℕ). SpeltFrom trace (at + (3 + m)) more) k all),
            ),
          ),
        ),
      )

  -- ---- places
  abbrev Within : ℕ → Type 0
  Within at = (3 ≤ at) × (at < length trace)

  abbrev AllWithin : List Placed → Type 0
  AllWithin [] = Unit {0}
  AllWithin (p ∷ ps) = Within p.at × AllWithin ps

  all-within : (at : ℕ) (ps : List Placed) → 3 ≤ at → SpeltFrom trace at ps → AllWithin ps
  all-within at [] h w = tt
  all-within at (p ∷ ps) h w = (
    (omega (arith, h, w.1.0), omega (arith, w.0, w.1.0)),
    after AllWithin tt p.field ps (SpeltFrom trace (at + (3 + said_at trace at)) ps) (all-within (at + (3 + said_at trace at)) ps (omega (arith, h))) w.1.1.1.1,
  )

  suffix : (xs ys : List Placed) → AllWithin (xs ++ ys) → AllWithin ys
  suffix [] ys w = w
  suffix (x ∷ xs) ys w = suffix xs ys w.1

  ends-within : (config : Config) (b : List ℕ) (clock : ℕ) (last : Option (List ℕ)) (n : ℕ) (ps : List Placed) (r : Ending) → AllWithin ps → EndsAt config b clock last n ps r → EndsWithin trace r
  ends-within config b clock last n ps (Replayed m) w e = tt
  ends-within config b clock last n [] (Differs at) w e = absurd e
  ends-within config b clock last n [] (Stopped at) w e = absurd e
  ends-within config b clock last n [] Damaged w e = e
  ends-within config b clock last n (p ∷ ps) (Differs at) w e = subst Within (sym e.0) w.0
  ends-within config b clock last n (p ∷ ps) (Stopped at) w e = subst Within (sym e.0) w.0
  ends-within config b clock last n (p ∷ ps) Damaged w e = e

pub fields-spelt : FieldsSpelt
unfolding fields_from
fields-spelt trace = spelt-from trace (length (drop 3 trace)) 3 (drop 3 trace) refl (omega arith)

pub places-within : (config : Config) → PlacesWithin config
places-within config b trace n w =
    let r = replay-serves config b trace n w in
    let all = all-within trace 3 (fields_in trace) (omega arith) (fields-spelt trace) in
    ends-within trace (ruled_by config trace) _ _ _ _ r.rest (replayed config b trace).answer (suffix trace r.done r.rest (subst (AllWithin trace) r.split all)) r.ends
