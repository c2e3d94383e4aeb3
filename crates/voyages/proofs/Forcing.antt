-- The rule of force that a trace is replayed under is the one that its first field says.
use native.Mathlib.Omega.{arith}
use Prim.Native.Nat.{ℕ, ◌+◌}
use mathlib.Core.Path.{◌≡◌, refl, sym, ap, subst, ◌∙◌}
use mathlib.Core.Bool.{Bool, true, false, cond}
use mathlib.Core.List.{List, [], ◌∷◌, ◌++◌}
use mathlib.Core.Logic.{inl, inr}
use Rattle.std.specs.Prelude.{Option, Some, None}
use lib.ListN.{length, drop, length-replicate}
use lib.Dec.{eqb}
use borrow.Author.Tests.{eq-eqb, ne_eqb}
use Rattle.engine.specs.declared.Config.{Config}
use Rattle.octets.specs.Compare.{same}
use Rattle.octets.specs.BigEndian.{num}
use Rattle.octets.proofs.Choices.{cases}
use Rattle.octets.proofs.Tests.{same_refl}
use Rattle.serving.specs.Serve.{Served, served, served_table}
use Rattle.trace.specs.declared.Opening.{Opening}
use Rattle.trace.specs.declared.Field.{Field}
use Rattle.trace.specs.declared.Field.TheVariants.{Clock, Frame, Reply, Purge, Rule}
use Rattle.trace.specs.Trace.{Placed, opening_of, field_of, forcing_by, forcing_in, fields_in}
use Rattle.replay.specs.Replay.{Damaged, Stopped, Voyage, Turn, On, is_one_frame, with_clock, with_frame, with_purge, on_field, on_turn, After, walked, set_out, ruled_by, on_opening, replayed}
use Rattle.promises.specs.Clock.{memory_after}
use Rattle.voyages.specs.Serving.{clock_by, call_by, calls_of, last_by, LeadsOn, AllLeadOn, ReplaysAs}
use Rattle.voyages.specs.Spelling.{WellOpened, said_at, OtherRuleAt, SpeltAt, SpeltFrom}
use Rattle.voyages.specs.Forcing.{SaysNew, table_for, NewRuleServes, OldRuleServes, CallersRuleUnheard, OtherRuleStops}
use Rattle.voyages.proofs.Serving.{Agrees, after_both}
use Rattle.voyages.proofs.Spelling.{opening-read, replay-serves, spelt-first, after, fields-spelt}

-- ---- what the first field says
module _ (trace : List ℕ) where
  new_by : (f : Option Field) → SpeltAt trace 3 f → SaysNew trace → forcing_by f ≡ false
  new_by (Some (Rule false)) w n = refl
  new_by (Some (Rule true)) w n = absurd (omega (arith, w.1.rule, n.1.rule))
  new_by (Some (Clock clock)) w n = absurd (omega (arith, w.1.0, n.1.tag))
  new_by (Some (Frame len)) w n = absurd (omega (arith, w.1.0, n.1.tag))
  new_by (Some (Reply len)) w n = absurd (omega (arith, w.1.0, n.1.tag))
  new_by (Some (Purge bound)) w n = absurd (omega (arith, w.1.0, n.1.tag))
  new_by None (inl (inl w)) n = absurd (omega (arith, w, n.0))
  new_by None (inl (inr w)) n = absurd (omega (arith, w, n.0))
  new_by None (inr (inl (inl w))) n = absurd (omega (arith, w, n.1.tag))
  new_by None (inr (inl (inr w))) n = absurd (omega (arith, w, n.1.tag))
  new_by None (inr (inr (inl (inl w)))) n = absurd (omega (arith, w.0, n.1.tag))
  new_by None (inr (inr (inl (inr w)))) n = absurd (omega (arith, w.0, n.1.tag))
  new_by None (inr (inr (inr w))) n = absurd (w.other false n.1)

  old-by : (f : Option Field) → SpeltAt trace 3 f → (SaysNew trace → ⊥) → forcing_by f ≡ true
  old-by (Some (Rule false)) w n = absurd (n w)
  old-by (Some (Rule true)) w n = refl
  old-by (Some (Clock clock)) w n = refl
  old-by (Some (Frame len)) w n = refl
  old-by (Some (Reply len)) w n = refl
  old-by (Some (Purge bound)) w n = refl
  old-by None w n = refl

  module _ (o : WellOpened trace) where
    first-spelt : SpeltAt trace 3 (field_of (drop 3 trace))
    first-spelt = (spelt-first trace 3 o.least).0 (λ y. refl)

    pub says-new : SaysNew trace → forcing_in trace ≡ false
    unfolding forcing_in
    says-new n = new_by (field_of (drop 3 trace)) first-spelt n

    pub says-old : (SaysNew trace → ⊥) → forcing_in trace ≡ true
    unfolding forcing_in
    says-old n = old-by (field_of (drop 3 trace)) first-spelt n

abbrev under : Config → Bool → Config
under config forcing = record { engine = config.engine; forcing = forcing }

module _ (config : Config) (b trace : List ℕ) (n : length b ≡ 42000) (o : WellOpened trace) where
  serves-under : (forcing : Bool) → forcing_in trace ≡ forcing → ReplaysAs (under config forcing) (table_for trace) 0 None 0 (fields_in trace) (replayed config b trace)
  serves-under forcing e =
      subst (λ (f : Bool). ReplaysAs (under config f) (table_for trace) 0 None 0 (fields_in trace) (replayed config b trace)) e (replay-serves config b trace n o)

pub new-rule-serves : (config : Config) → NewRuleServes config
new-rule-serves config b trace n o s = serves-under config b trace n o false (says-new trace o s)

pub old-rule-serves : (config : Config) → OldRuleServes config
old-rule-serves config b trace n o s = serves-under config b trace n o true (says-old trace o s)

-- ---- the caller's rule
opening-unheard : (config other : Config) (b trace : List ℕ) (o : Option Opening) → config.engine ≡ other.engine → on_opening config b trace o ≡ on_opening other b trace o
opening-unheard config other b trace None e = refl
opening-unheard config other b trace (Some o) e = λ i. walked (record { engine = e i; forcing = forcing_in trace }) (set_out o.mode o.vbucket) (fields_in trace)

pub callers-rule-unheard : CallersRuleUnheard
unfolding replayed
callers-rule-unheard config other b trace e =
    ap (λ (x : After). cond (eqb (length b) 42000) x (record { answer = Damaged; table = b })) (opening-unheard config other b trace (opening_of trace) e)

-- ---- fields that lead on, one after another
record Step (config : Config) (v : Voyage) (last : Option (List ℕ)) (at : ℕ) (f : Option Field) (bytes : List ℕ) : Type 0 where
  next : Voyage
  goes : on_field config at v f bytes ≡ On next
  table : next.table ≡ memory_after config v.table (call_by v.clock f bytes)
  clock : next.clock ≡ clock_by v.clock f
  agrees : Agrees next (last_by config v.table v.clock last f bytes)

module _ (config : Config) (v : Voyage) (last : Option (List ℕ)) (a : Agrees v last) (at : ℕ) where
  step : (f : Option Field) (bytes : List ℕ) → LeadsOn config v.table v.clock last f bytes → Step config v last at f bytes
  step (Some (Clock n)) bytes l = record { next = with_clock n v; goes = refl; table = refl; clock = refl; agrees = a }
  step (Some (Frame len)) bytes l =
      let one : is_one_frame (served config v.table v.clock bytes 1302) len ≡ true = ap (λ (r : Served). is_one_frame r len) l.answer ∙ eq-eqb len len refl in
      let started : eqb (v.frames + 1) 0 ≡ false = ne_eqb (v.frames + 1) 0 (λ z. omega (arith, z)) in
      record {
        next = with_frame config bytes v;
        goes = rw one refl;
        table = ap (served_table config v.table v.clock bytes) (sym (length-replicate {A = ℕ} 1302 0));
        clock = refl;
        agrees = rw started refl;
      }
  step (Some (Reply len)) bytes l =
      cases (eqb v.frames 0)
      (λ t. let e : None ≡ Some bytes = sym (rw t at a) ∙ l in absurd (let z : ◌≡◌ {A = ℕ} 0 1 = cc in omega arith))
      (λ t.
      let e : Some bytes ≡ Some v.reply = sym l ∙ rw t at a in
      let k : bytes ≡ v.reply = cc in
      let q : same bytes v.reply ≡ true = ap (same bytes) (sym k) ∙ same_refl bytes in
      record { next = v; goes = rw (t, q) refl; table = refl; clock = refl; agrees = a })
  step (Some (Purge bound)) bytes l = record { next = with_purge config bound.0 v; goes = refl; table = refl; clock = refl; agrees = a }
  step (Some (Rule forcing)) bytes l = record { next = v; goes = refl; table = refl; clock = refl; agrees = a }
  step None bytes l = absurd l

record Reached (config : Config) (v : Voyage) (before rest : List Placed) : Type 0 where
  there : Voyage
  walks : walked config v (before ++ rest) ≡ walked config there rest
  table : there.table ≡ memory_after config v.table (calls_of v.clock before)

reach : (config : Config) (v : Voyage) (last : Option (List ℕ)) (before rest : List Placed) → Agrees v last → AllLeadOn config v.table v.clock last before → Reached config v before rest
reach config v last [] rest a l = record { there = v; walks = refl; table = refl }
reach config v last (p ∷ ps) rest a l =
    let calls = call_by v.clock p.field p.bytes in
    let sent = last_by config v.table v.clock last p.field p.bytes in
    let s = step config v last a p.at p.field p.bytes l.0 in
    let w = s.next in
    let more : AllLeadOn config w.table w.clock sent ps =
    subst (λ (n : ℕ). AllLeadOn config w.table n sent ps) (sym s.clock)
    (subst (λ (t : List ℕ). AllLeadOn config t (clock_by v.clock p.field) sent ps) (sym s.table) l.1) in
    let r = reach config w sent ps rest s.agrees more in
    record {
      there = r.there;
      walks = ap (λ (t : Turn). on_turn v t (λ u. walked config u (ps ++ rest))) s.goes ∙ r.walks;
      table =
          r.table
          ∙ ((λ i. memory_after config (s.table i) (calls_of (s.clock i) ps)) ∙ sym (after_both config v.table calls (calls_of (clock_by v.clock p.field) ps)));
    }

-- ---- a field of a trace is spelt at its place
module _ (trace : List ℕ) (p : Placed) (more : List Placed) where
  not_none : (xs : List Placed) → [] ≡ xs ++ (p ∷ more) → ⊥
  not_none [] e = let z : ◌≡◌ {A = ℕ} 0 1 = cc in omega arith
  not_none (x ∷ xs) e = let z : ◌≡◌ {A = ℕ} 0 1 = cc in omega arith

  spelt-at : (at : ℕ) (before : List Placed) → SpeltFrom trace at (before ++ (p ∷ more)) → SpeltAt trace p.at p.field
  spelt-at at [] w = subst (λ (n : ℕ). SpeltAt trace n p.field) (sym w.1.0) w.1.1.0
  spelt-at at (x ∷ xs) w =
      let on = at + (3 + said_at trace at) in
      after (λ ps. ps ≡ xs ++ (p ∷ more) → SpeltAt trace p.at p.field) (λ e. absurd (not_none xs e)) x.field (xs ++ (p ∷ more)) (SpeltFrom trace on (xs ++ (p ∷ more)))
      (λ s e. spelt-at on xs s) w.1.1.1.1 refl

broken-by : (trace : List ℕ) (at : ℕ) (f : Option Field) → SpeltAt trace at f → OtherRuleAt trace at → f ≡ None
broken-by trace at (Some (Clock n)) w o = absurd (omega (arith, w.1.0, o.tag))
broken-by trace at (Some (Frame len)) w o = absurd (omega (arith, w.1.0, o.tag))
broken-by trace at (Some (Reply len)) w o = absurd (omega (arith, w.1.0, o.tag))
broken-by trace at (Some (Purge bound)) w o = absurd (omega (arith, w.1.0, o.tag))
broken-by trace at (Some (Rule forcing)) w o = absurd (o.other forcing w.1)
broken-by trace at None w o = refl

pub other-rule-stops : (config : Config) → OtherRuleStops config
unfolding replayed
other-rule-stops config b trace n o before more p e k l =
    let ruled = ruled_by config trace in
    let v = set_out (num trace 0 1) (num trace 1 2) in
    let r = reach ruled v None before (p ∷ more) refl l in
    let broken = broken-by trace p.at p.field (spelt-at trace p more 3 before (subst (SpeltFrom trace 3) e (fields-spelt trace))) k in
    rw (eq-eqb (length b) 42000 n, opening-read trace o)
    (ap (walked ruled v) e
    ∙ (r.walks
    ∙ (ap (λ (f : Option Field). on_turn r.there (on_field ruled p.at r.there f p.bytes) (λ w. walked ruled w more)) broken
    ∙ (λ i. record { answer = Stopped p.at; table = r.table i }))))
