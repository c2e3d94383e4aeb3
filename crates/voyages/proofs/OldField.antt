-- The field that says the old rule does nothing but put what follows 4 bytes later.
use Rattle.std.specs.Prelude.{Option, Some, None}
use native.Mathlib.Omega.{arith}
use Prim.Native.Nat.{ℕ, zero, suc, ◌+◌, ◌≤◌}
use mathlib.Core.Path.{◌≡◌, refl, sym, ap, ◌∙◌}
use mathlib.Core.Bool.{Bool, true, false, cond}
use mathlib.Core.List.{List, [], ◌∷◌, ◌++◌, map}
use lib.ListN.{length, drop, length-append}
use lib.Dec.{eqb}
use borrow.Author.Tests.{ne_eqb}
use Rattle.engine.specs.declared.Config.{Config}
use Rattle.octets.specs.Compare.{same}
use Rattle.octets.specs.BigEndian.{num}
use Rattle.octets.proofs.Choices.{cases}
use Rattle.serving.specs.Serve.{served}
use Rattle.trace.specs.declared.Field.{Field}
use Rattle.trace.specs.declared.Field.TheVariants.{Clock, Frame, Reply, Purge, Rule}
use Rattle.trace.specs.Trace.{Placed, length_in, bytes_held, field_of, is_rule, field_at, forcing_by, forcing_in, is_broken, placed_from, fields_from, fields_in}
use Rattle.trace_writer.specs.Writing.{rule_field}
use Rattle.trace_writer.proofs.FieldLaws.{length-rule}
use Rattle.trace_writer.proofs.ReadBack.{rule-back}
use Rattle.replay.specs.Replay.{Voyage, is_one_frame, with_clock, with_frame, with_purge, on_field, on_turn, After, walked, set_out, ruled_by, replayed}
use Rattle.voyages.specs.Spelling.{WellOpened}
use Rattle.voyages.specs.Forcing.{four_later, OldRuleAsNone}
use Rattle.voyages.proofs.Spelling.{opening-read, spelt-first}
use Rattle.voyages.proofs.Forcing.{says-old}
use Rattle.voyages.proofs.Recorded.{at_first, at-any, first-at}

abbrev moved : After → After
moved a = record { answer = four_later a.answer; table = a.table }

abbrev move : Placed → Placed
move p = record { at = p.at + 4; field = p.field; bytes = p.bytes }

-- ---- a walk over fields that stand later
module _ (config : Config) where
  turn-later : (v : Voyage) (at : ℕ) (f : Option Field) (bytes : List ℕ) (go on : Voyage → After) → ((w : Voyage) → on w ≡ moved (go w))
      → on_turn v (on_field config (at + 4) v f bytes) on ≡ moved (on_turn v (on_field config at v f bytes) go)
  turn-later v at (Some (Clock n)) bytes go on h = h (with_clock n v)
  turn-later v at (Some (Frame len)) bytes go on h =
      cases (is_one_frame (served config v.table v.clock bytes 1302) len) (λ t. rw t (h (with_frame config bytes v))) (λ t. rw t refl)
  turn-later v at (Some (Reply len)) bytes go on h =
      cases (eqb v.frames 0) (λ t. rw t refl) (λ t. cases (same bytes v.reply) (λ u. rw (t, u) (h v)) (λ u. rw (t, u) refl))
  turn-later v at (Some (Purge bound)) bytes go on h = h (with_purge config bound.0 v)
  turn-later v at (Some (Rule forcing)) bytes go on h = h v
  turn-later v at None bytes go on h = refl

  walk-later : (v : Voyage) (ps : List Placed) → walked config v (map move ps) ≡ moved (walked config v ps)
  walk-later v [] = refl
  walk-later v (p ∷ ps) = turn-later v p.at p.field p.bytes (λ w. walked config w ps) (λ w. walked config w (map move ps)) (λ w. walk-later w ps)

-- ---- fields read 4 bytes later: only a rule that is the first goes by its place
abbrev Same : ℕ → List ℕ → Type 0
Same at s = field_at (at + 4) s ≡ field_at at s

past_first : (at : ℕ) (s : List ℕ) → 4 ≤ at → Same at s
unfolding field_at
past_first at s h = rw (ne_eqb at 3 (λ e. omega (arith, h, e)), ne_eqb (at + 4) 3 (λ e. omega (arith, e))) refl

through : (t : Bool) (ps : List Placed) → cond t [] (map move ps) ≡ map move (cond t [] ps)
through true ps = refl
through false ps = refl

fields-later : (n at : ℕ) (s : List ℕ) → 3 ≤ at → Same at s → placed_from n (at + 4) s ≡ map move (placed_from n at s)
unfolding placed_from
fields-later zero at s h e = refl
fields-later (suc n) at [] h e = refl
fields-later (suc n) at (x ∷ xs) h e =
    let s : List ℕ = x ∷ xs in
    let next = at + (3 + length_in s) in
    let rest : List ℕ = drop (3 + length_in s) s in
    let place : at + 4 + (3 + length_in s) ≡ next + 4 = omega arith in
    let on : placed_from n (at + 4 + (3 + length_in s)) rest ≡ map move (placed_from n next rest) =
    ap (λ (k : ℕ). placed_from n k rest) place ∙ fields-later n next rest (omega (arith, h)) (past_first next rest (omega (arith, h))) in
    (λ i. record { at = at + 4; field = e i; bytes = bytes_held s } ∷ cond (is_broken (e i)) [] (on i))
    ∙ ap (λ (ps : List Placed). record { at = at + 4; field = field_at at s; bytes = bytes_held s } ∷ ps) (through (is_broken (field_at at s)) (placed_from n next rest))

-- ---- a trace with the field, and without
module _ (config : Config) (b : List ℕ) (mode high low : ℕ) (fields : List ℕ) (o : WellOpened (mode ∷ (high ∷ (low ∷ (rule_field true ++ fields)))))
    (k : num fields 0 1 ≡ 5 → ⊥) where
  abbrev ruled : List ℕ
  ruled = mode ∷ (high ∷ (low ∷ (rule_field true ++ fields)))

  abbrev bare : List ℕ
  bare = mode ∷ (high ∷ (low ∷ fields))

  bare-opened : WellOpened bare
  bare-opened = record {
    least = omega arith;
    most = omega (arith, o.most, length-append (rule_field true) fields, length-rule true);
    mode = o.mode;
  }

  ruled-old : forcing_in ruled ≡ true
  unfolding forcing_in
  ruled-old = ap forcing_by (rule-back true fields).field

  bare-old : forcing_in bare ≡ true
  bare-old = says-old bare bare-opened (λ n. k n.1.tag)

  one-rule : ruled_by config ruled ≡ ruled_by config bare
  one-rule = λ i. record { engine = config.engine; forcing = (ruled-old ∙ sym bare-old) i }

  not_first : Same 3 fields
  not_first = cases (is_rule (field_of fields)) (λ t. absurd (k ((spelt-first bare 3 bare-opened.least).1 t))) (λ t. at-any 7 fields t ∙ sym (at_first fields))

  fields-moved : fields_from 7 fields ≡ map move (fields_from 3 fields)
  unfolding fields_from
  fields-moved = fields-later (length fields) 3 fields (omega arith) not_first

  walks-moved : (v : Voyage) → walked (ruled_by config ruled) v (fields_in ruled) ≡ moved (walked (ruled_by config bare) v (fields_in bare))
  walks-moved v =
      (λ i. walked (one-rule i) v (first-at 3 5 (1 ∷ []) fields (Some (Rule true)) (rule-back true fields) (at_first (rule_field true ++ fields)) refl i))
      ∙ (ap (walked (ruled_by config bare) v) fields-moved ∙ walk-later (ruled_by config bare) v (fields_from 3 fields))

  pub as_none : replayed config b ruled ≡ moved (replayed config b bare)
  unfolding replayed
  as_none =
      cases (eqb (length b) 42000)
      (λ t. rw (t, opening-read ruled o, opening-read bare bare-opened) (walks-moved (set_out (num bare 0 1) (num bare 1 2))))
      (λ t. rw t refl)

pub old-rule-as-none : (config : Config) → OldRuleAsNone config
old-rule-as-none config b mode high low fields o k = as_none config b mode high low fields o k
