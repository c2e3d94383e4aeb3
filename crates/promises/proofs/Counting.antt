-- A counter for a key without a live document begins at its initial number, and goes on with a live one; what a plain write stores expires by the plain rule.
use Prim.Native.Nat.{ℕ, ◌+◌, ◌^◌, ◌≤◌, ◌<◌}
use mathlib.Core.Path.{◌≡◌, refl, sym, ap, subst, ◌∙◌}
use mathlib.Core.Bool.{Bool, true, false}
use mathlib.Core.List.{List}
use Rattle.std.specs.Prelude.{Option, Some}
use native.Mathlib.Omega.{arith}
use borrow.Author.Tests.{eq-eqb, ne_eqb, le-leb, ltb-false, le-ltb, lt-ltb}
use Rattle.engine.specs.declared.Config.{Config}
use Rattle.octets.specs.Parts.{Bytes}
use Rattle.octets.specs.BigEndian.{num}
use Rattle.octets.proofs.Choices.{cases}
use Rattle.octets.proofs.Tests.{same_refl}
use Rattle.digits.specs.Decimal.{digits}
use Rattle.numbers.specs.Expiry.{passes, absolute}
use Rattle.document.specs.Documents.{Doc, doc_value}
use Rattle.document.specs.Stored.{live, numbers_of}
use Rattle.header.specs.Header.{header_of}
use Rattle.request.specs.Reading.{Whole}
use Rattle.commands.specs.declared.Kind.{Kind}
use Rattle.commands.specs.declared.Counter.{Counter}
use Rattle.commands.specs.declared.Command.TheVariants.{Write, Count}
use Rattle.commands.specs.Rules.{rule_of, tests_of, first_status}
use Rattle.commands.proofs.Passed.{Passed, passed}
use Rattle.effects.specs.Done.{done_of, plain_numbers, sum}
use Rattle.decision.specs.Decision.{decision}
use Rattle.decision.specs.Decide.{doc_from, bytes_from}
use Rattle.decode.specs.Decode.{request_of}
use Rattle.engine.specs.Engine.{store_row}
use Rattle.rows.specs.Table.{Table, table_of, table_at, clock_at}
use Rattle.rows.specs.Find.{find_row}
use Rattle.engines.specs.Engines.{engine_of}
use Rattle.engines.proofs.EngineLaws.{engines-laws}
use Rattle.engines.proofs.Tables.{good-sound-by}
use Rattle.serving.specs.Serve.{reaches_decision, decision_on, decision_at, frame_effect, effect_at, frame_change, frame_table, gate_all, table_by, served_table}
use Rattle.serving.proofs.Change.{changing, change-good}
use Rattle.serving.proofs.Formed.{no, zero-reaches}
use Rattle.serving.proofs.Gated.{was-open}
use Rattle.serving.proofs.Statuses.{statuses-in-order}
use Rattle.promises.specs.Merge.{doc_at}
use Rattle.promises.specs.Kept.{later_at}
use Rattle.promises.specs.Expiry.{opcode, extras_in, key_in, initial_in, counter_expiry, NotLive, Live, PlainExpiry, BeginsAt, Answers, DeadCounts, LiveCounts, written_expiry, WritesUntil}
use Rattle.promises.proofs.Kept.{good-later, later-clock}
use Rattle.promises.proofs.Asks.{stores, counts}
use Rattle.promises.proofs.Liveness.{later, all_pass, dead-at, alive-at, avoids, answered, was-whole}
use Rattle.promises.proofs.Dead.{seen, command, rule, tests, list, count-needs, without-missing, without-conflict, without-number, not-missing, no-conflict, no_number}

-- ---- the plain rule
plain-expiry : (given clock : ℕ) → passes given clock ≡ false → PlainExpiry given clock (absolute given clock)
unfolding passes absolute
plain-expiry given clock e =
    record {
      never = λ z. rw z;
      added = λ l m.
          let inside : given + clock ≤ 0xffffffff = ltb-false 0xffffffff (given + clock) (rw (le-leb 1 given l, le-leb given 2592000 m) at e) in
          let nonzero : given ≡ 0 → ⊥ = λ z. omega arith in
          (omega arith, rw (ne_eqb given 0 nonzero, le-ltb 2592000 given m) (omega arith));
      absolute = λ g. let nonzero : given ≡ 0 → ⊥ = λ z. omega arith in rw (ne_eqb given 0 nonzero, lt-ltb 2592000 given g);
    }

-- at the later of the kept clock and a call's
pub until-later : (b : List ℕ) (clock given : ℕ) → passes given (clock_at (table_of b) clock) ≡ false
    → PlainExpiry given (later_at b clock) (absolute given (clock_at (table_of b) clock))
until-later b clock given e =
    subst (λ (c : ℕ). PlainExpiry given c (absolute given (clock_at (table_of b) clock))) (later-clock b clock) (plain-expiry given (clock_at (table_of b) clock) e)

-- a frame with status 0 fails no test
pub unfailing : (config : Config) (b : List ℕ) (clock : ℕ) (s : List ℕ) (room : ℕ) → Answers config b clock s room 0 → Passed (tests config b clock s)
unfolding first_status
unfailing config b clock s room (len, e) =
    let zero = answered config b clock s room 0 _ len e in
    let p = all_pass (list config b clock s) (refl, (refl, (refl, (refl, (refl, (refl, (refl, (refl, (refl, (refl, (refl, (refl, (refl, (refl, (refl, tt))))))))))))))) zero in
    passed (tests config b clock s) (sym (later 4 (list config b clock s) (p.0, (p.1.0, (p.1.1.0, (p.1.1.1.0, tt))))) ∙ zero)

-- so it breaks no rule that needs mode or clock
pub faultless : (config : Config) (b : List ℕ) (clock : ℕ) (s : List ℕ) (room : ℕ) → Answers config b clock s room 0 → (rule config b clock s).fault ≡ false
unfolding tests_of
faultless config b clock s room a = (unfailing config b clock s room a).fault

-- what a served frame stores is what its key has then
pub stored_at : (config : Config) (b : List ℕ) (clock : ℕ) (s : List ℕ) (room : ℕ) (d : Doc) → Bytes b → Bytes s → clock < 2 ^ 32 → gate_all config b room s ≡ Whole (header_of s)
    → (effect_at config b clock s (header_of s)).store ≡ Some d → doc_at (served_table config b clock s room) (key_in s) ≡ Some d
unfolding served_table frame_table
stored_at config b clock s room d y z c o e =
    let t = table_at (table_of b) clock in
    let now = clock_at (table_of b) clock in
    let h = header_of s in
    let w = was-open config b s room h o in
    let g = good-later config b clock y w.undamaged c in
    let after = (good-sound-by config (frame_change config t now s h) (change-good config t now s h g z w.frame.inside)).1 in
    let storing = (changing config t now s h g.good z w.frame.inside).stores d e in
    ap (λ (m : List ℕ). doc_at m (key_in s)) (ap (table_by config b clock s) o)
    ∙ ap (λ (x : Table). find_row x.rows (key_in s)) after
    ∙ ap (λ (x : Option Doc). find_row (store_row (engine_of config) t.rows (key_in s) x) (key_in s)) e
    ∙ (engines-laws config).find-put t.rows (key_in s) d g.kept storing.room (key_in s)
    ∙ rw (same_refl (key_in s))

-- what a frame's command stores where no test fails
abbrev pub does : Config → List ℕ → ℕ → List ℕ → Option Doc
does config b clock s =
    let done = done_of (seen config b clock s) (command config b clock s) in
    doc_from done.store (bytes_from done.source (request_of config.forcing s (header_of s)).value (doc_value (doc_at b (key_in s))))

-- a frame with status 0 stores it
module _ (config : Config) (b : List ℕ) (clock : ℕ) (s : List ℕ) (room : ℕ) (d : Doc) (stores : does config b clock s ≡ Some d) where
  reached : reaches_decision s (header_of s) ≡ true → (decision_at config b clock s (header_of s)).status ≡ 0
      → (effect_at config b clock s (header_of s)).store ≡ Some d
  unfolding frame_effect decision_on decision
  reached r e = rw (r, eq-eqb _ 0 (rw r at e)) stores

  unreached : reaches_decision s (header_of s) ≡ false → (decision_at config b clock s (header_of s)).status ≡ 0 → ⊥
  unfolding decision_on
  unreached r e = no (sym r ∙ zero-reaches s (header_of s) (rw r at e))

  pub done_at : Bytes b → Bytes s → clock < 2 ^ 32 → Answers config b clock s room 0 → doc_at (served_table config b clock s room) (key_in s) ≡ Some d
  done_at y z c (len, e) =
      let zero = sym (statuses-in-order config (table_at (table_of b) clock) (clock_at (table_of b) clock) s (header_of s)) ∙ answered config b clock s room 0 _ len e in
      let stored = cases (reaches_decision s (header_of s)) (λ r. reached r zero) (λ r. absurd (unreached r zero)) in
      stored_at config b clock s room d y z c (was-whole config b clock s room 0 _ len e) stored

module _ (config : Config) (b : List ℕ) (clock : ℕ) (s : List ℕ) (room : ℕ) (up : Bool)
    (asks : command config b clock s ≡ Count (record { up = up; delta = num (extras_in s) 0 8; initial = initial_in s; expiry = counter_expiry s })) where
  abbrev counter : Counter
  counter = record { up = up; delta = num (extras_in s) 0 8; initial = initial_in s; expiry = counter_expiry s }

  -- a count of a number, with these flags and this expiry
  abbrev counting : ℕ → ℕ → ℕ → Doc
  counting n flags expiry = record { tomb = false; value = digits n; numbers = plain_numbers (seen config b clock s) flags expiry }

  begins : NotLive (later_at b clock) (doc_at b (key_in s)) → does config b clock s ≡ Some (counting (initial_in s) 0 (absolute (counter_expiry s) (clock_at (table_of b) clock)))
  unfolding done_of
  begins n = rw (asks, dead-at b clock (doc_at b (key_in s)) n)

  goes_on : (d : Doc) → doc_at b (key_in s) ≡ Some d → Live (later_at b clock) d
      → does config b clock s ≡ Some (counting (sum (seen config b clock s).number counter) (numbers_of (seen config b clock s).row).flags (numbers_of (seen config b clock s).row).expiry)
  unfolding done_of
  goes_on d at l = let t : live (seen config b clock s).row (clock_at (table_of b) clock) ≡ true = rw at (alive-at b clock d l) in rw (asks, t)

  anew : NotLive (later_at b clock) (doc_at b (key_in s)) → Bytes b → Bytes s → clock < 2 ^ 32 → Answers config b clock s room 0
      → (d : Doc) × ((doc_at (served_table config b clock s room) (key_in s) ≡ Some d) × BeginsAt (initial_in s) (counter_expiry s) (later_at b clock) d)
  unfolding rule_of
  anew n y z c a =
      let until = until-later b clock (counter_expiry s) (rw asks at (faultless config b clock s room a)) in
      (_, (done_at config b clock s room _ (begins n) y z c a, record { document = refl; value = refl; flags = refl; expiry = until }))

pub live-counts : (config : Config) → LiveCounts config
unfolding request_of
live-counts config b clock s room d y z c at l e a =
    let (up, asks) = counts (seen config b clock s) (extras_in s) (opcode s) e in
    (_, (done_at config b clock s room _ (goes_on config b clock s room up asks d at l) y z c a, (rw at, rw at)))

pub dead-counts : (config : Config) → DeadCounts config
unfolding request_of rule_of
dead-counts config b clock s room y z small n e c x =
    let (up, asks) = counts (seen config b clock s) (extras_in s) (opcode s) e in
    let needless = count-needs config b clock s e ∙ ne_eqb (counter_expiry s) 0xffffffff x in
    record {
      found = avoids config b clock s room 0x01 (without-missing config b clock s (not-missing config b clock s needless c));
      free = avoids config b clock s room 0x02 (without-conflict config b clock s (no-conflict config b clock s n (rw asks) c));
      number = avoids config b clock s room 0x06 (without-number config b clock s (no_number config b clock s n));
      stored = anew config b clock s room up asks n y z small;
    }

-- ---- a Set, an Add or a Replace
module _ (config : Config) (b : List ℕ) (clock : ℕ) (s : List ℕ) (room : ℕ) (kind : Kind)
    (asks : command config b clock s ≡ Write (record { kind = kind; flags = num (extras_in s) 0 4; expiry = written_expiry s })) where
  abbrev document : Doc
  document = record {
    tomb = false;
    value = (request_of config.forcing s (header_of s)).value;
    numbers = plain_numbers (seen config b clock s) (num (extras_in s) 0 4) (absolute (written_expiry s) (clock_at (table_of b) clock));
  }

  writes : does config b clock s ≡ Some document
  unfolding done_of
  writes = rw asks

  until : Answers config b clock s room 0 → PlainExpiry (written_expiry s) (later_at b clock) document.numbers.expiry
  unfolding rule_of
  until a = until-later b clock (written_expiry s) (rw asks at (faultless config b clock s room a))

pub writes-until : (config : Config) → WritesUntil config
unfolding request_of
writes-until config b clock s room y z small e a =
    let (kind, asks) = stores (seen config b clock s) (extras_in s) (opcode s) e in
    (_, (done_at config b clock s room _ (writes config b clock s room kind asks) y z small a, until config b clock s room kind asks a))
