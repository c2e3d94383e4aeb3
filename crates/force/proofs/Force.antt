-- What is claimed of option 0x01, by the new rule and by the old.
use Prim.Native.Nat.{ℕ, ◌+◌, ◌%◌}
use mathlib.Core.Path.{◌≡◌, refl, sym, ap, ◌∙◌}
use mathlib.Core.Bool.{Bool, true, false, not, ◌&&◌, ◌||◌}
use mathlib.Core.List.{List}
use lib.ListN.{length}
use lib.Dec.{leb, eqb}
use borrow.Author.Tests.{le-ltb, eqb-true, not-true, not-false}
use Rattle.octets.specs.Parts.{written}
use Rattle.octets.specs.BigEndian.{num}
use Rattle.octets.proofs.Choices.{cases, both}
use Rattle.shape.specs.Shapes.{Shape, commands, among, shape_of}
use Rattle.shape.proofs.ShapeLaws.{same_shape}
use Rattle.header.specs.declared.Header.{Header}
use Rattle.header.specs.Header.{header_of}
use Rattle.with_meta.specs.WithMeta.{options_of, with_meta}
use Rattle.rules.specs.Rules.{is_forced, forces, judged, status}
use Rattle.rules.proofs.RuleLaws.{built, formed, field-rules}
use Rattle.request.specs.Reading.{Gate, Stop, Whole, reading, whole_reading, frame_status, bytes_in, extras_span, value_span}
use Rattle.commands.specs.declared.Command.{Command}
use Rattle.commands.specs.declared.Command.TheVariants.{Get, Write, Delete, Count, Noop, Version, WithMeta, GetKeys, Join, Touch}
use Rattle.commands.specs.Rules.{rule_of, tests_of, first_failure}
use Rattle.decode.specs.Decode.{plain_of, counter_of, touch_of, meta_command, command_of, request_of}
use Rattle.engine.specs.declared.Config.{Config}
use Rattle.engine.specs.declared.EngineKind.{EngineKind}
use Rattle.engines.specs.Damage.{sound_by}
use Rattle.rows.specs.Table.{table_of, table_at, clock_at}
use Rattle.serving.specs.Serve.{Done, gate_all, reaches_decision}
use Rattle.serving.specs.Serve.{frame_effect, frame_reply, answer_by, table_by, reply_by, served, served_table, served_reply}
use Rattle.serving.proofs.Formed.{no}
use Rattle.serving.proofs.Gated.{was-open}
use Rattle.serving.proofs.SameAsk.{SameAsk, same_effect, same-table, same-reply}
use Rattle.promises.specs.Expiry.{opcode, extras_in, with_metas, Passes}
use Rattle.promises.specs.Replies.{writers}
use Rattle.promises.proofs.Asks.{tested, ask, IsPlain, plain-asked}
use Rattle.promises.proofs.Liveness.{later, listed, all_pass, answered}
use Rattle.promises.proofs.Dead.{seen, rule, tests, list}
use Rattle.promises.proofs.Keeps.{status-keeps}
use Rattle.force.specs.Force.{asks_force, ForceRefused, ForceStoresNothing, ForceUnread, StandbyTakesNone, ruled, ServedSame, RulesAlike}

-- ---- which frames are forced
-- a shape has a meta exactly if its opcode is a with-meta one
carried : Command → Bool
carried (Get k) = false
carried (Write p) = false
carried Delete = false
carried (Count k) = false
carried Noop = false
carried Version = false
carried (WithMeta w) = true
carried (GetKeys n) = false
carried (Join side) = false
carried (Touch t) = false

plain-not : (x : Command) → IsPlain x → carried x ≡ false
unfolding carried
plain-not (Get k) p = refl
plain-not (Write w) p = refl
plain-not Delete p = refl
plain-not (Count k) p = refl
plain-not Noop p = refl
plain-not Version p = refl
plain-not (WithMeta w) p = absurd p
plain-not (GetKeys n) p = refl
plain-not (Join side) p = refl
plain-not (Touch t) p = refl

meta-asked : (n : ℕ) (extras : List ℕ) → eqb (shape_of n).meta 0 ≡ not (carried (command_of (shape_of n).operation extras))
unfolding commands command_of plain_of counter_of touch_of meta_command carried
meta-asked n extras = same_shape (λ (x : Shape). eqb x.meta 0) (λ (x : Shape). not (carried (command_of x.operation extras))) n refl

no-meta : (n : ℕ) (extras : List ℕ) → among n with_metas ≡ false → eqb (shape_of n).meta 0 ≡ true
no-meta n extras e = meta-asked n extras ∙ rw (plain-not (command_of (shape_of n).operation extras) (plain-asked n extras e))

a-meta : (n : ℕ) → among n with_metas ≡ true → eqb (shape_of n).meta 0 ≡ false
unfolding shape_of
a-meta n e = not-true _ (tested (λ x. not (eqb (shape_of x).meta 0)) n with_metas refl e)

odd-options : (extras : List ℕ) → is_forced (with_meta extras) ≡ (leb 28 (length extras) && eqb (num extras 24 4 % 2) 1)
unfolding is_forced with_meta options_of
odd-options extras = cases (leb 28 (length extras)) (λ t. rw t) (λ t. rw t)

-- the definition that decides it says the same
forces-said : (s : List ℕ) → forces (shape_of (opcode s)) (extras_in s) ≡ asks_force s
unfolding forces
forces-said s =
    cases (among (opcode s) with_metas)
    (λ t. rw (t, a-meta (opcode s) t) (odd-options (extras_in s)))
    (λ t. rw (t, no-meta (opcode s) (extras_in s) t))

-- ---- the new rule
-- a forced frame is unsupported
unsupported : (config : Config) (b : List ℕ) (clock : ℕ) (s : List ℕ) → config.forcing ≡ false → asks_force s ≡ true → (tests config b clock s).unsupported ≡ true
unfolding tests_of request_of
unsupported config b clock s n f = rw (n, forces-said s ∙ f)

pub force-refused : (config : Config) → ForceRefused config
unfolding served gate_all frame_effect first_failure
force-refused config b clock s room n f c p =
    let h = header_of s in
    let len = length (frame_reply config b clock s h) in
    let opened : gate_all config b room s ≡ Whole h = rw (c.undamaged, le-ltb room 1302 c.roomy) c.whole in
    let first : first_failure (list config b clock s) ≡ 0x83 = later 5 (list config b clock s) p ∙ rw (unsupported config b clock s n f) in
    (len, ap (answer_by config b clock s) opened ∙ ap (λ (x : ℕ). Done x (24 + h.body) len) (listed config b clock s ∙ first))

-- where the status is 0 every check passes
module _ (config : Config) (b : List ℕ) (clock : ℕ) (s : List ℕ) (room st used len : ℕ) (e : served config b clock s room ≡ Done st used len) (z : st ≡ 0) where
  passes : Passes (list config b clock s)
  passes =
      all_pass (list config b clock s)
      (refl, (refl, (refl, (refl, (refl, (refl, (refl, (refl, (refl, (refl, (refl, (refl, (refl, (refl, (refl, tt)))))))))))))))
      (answered config b clock s room st used len e ∙ z)

  supported : (tests config b clock s).unsupported ≡ false
  supported = passes.1.1.1.1.1.0

  here : (tests config b clock s).elsewhere ≡ false
  here = passes.1.1.1.1.1.1.1.0

pub force-stores-nothing : (config : Config) → ForceStoresNothing config
force-stores-nothing config b clock s room st used len y n f e =
    let other : st ≡ 0 → ⊥ = λ z. no (sym (supported config b clock s room st used len e z) ∙ unsupported config b clock s n f) in
    (other, status-keeps config b clock s room st used len y e other)

forced-status : (s : List ℕ) (h : Header) → forces (shape_of h.opcode) (bytes_in s (extras_span h)) ≡ true → reaches_decision s h ≡ true → frame_status s h ≡ 0x83
unfolding frame_status status judged
forced-status s h f r =
    let x = shape_of h.opcode in
    let extras = bytes_in s (extras_span h) in
    let value = bytes_in s (value_span h) in
    rw (formed x h extras value r, field-rules x h extras value r, f, built x h extras value r)

pub force-unread : ForceUnread
unfolding reading whole_reading
force-unread s w f r = rw (w, forced-status s (header_of s) (forces-said s ∙ f) r)

-- ---- tables that aren't active
-- no write skips the vbucket test
writes-here : (config : Config) (b : List ℕ) (clock : ℕ) (s : List ℕ) → among (opcode s) writers ≡ true → (rule config b clock s).anywhere ≡ false
unfolding request_of shape_of command_of rule_of plain_of counter_of touch_of meta_command
writes-here config b clock s e = not-true _ (tested (λ n. not (rule_of (seen config b clock s) (ask (seen config b clock s) (extras_in s) n)).anywhere) (opcode s) writers refl e)

module _ (config : Config) (b : List ℕ) (clock : ℕ) (s : List ℕ) where
  abbrev is_mine : Bool
  is_mine = eqb (header_of s).vbucket (table_of b).head.vbucket

  abbrev is_active : Bool
  is_active = eqb (table_of b).head.state 1

  active : among (opcode s) writers ≡ true → (tests config b clock s).elsewhere ≡ false → (table_of b).head.state ≡ 1
  unfolding tests_of request_of
  active w e =
      let at = rw (writes-here config b clock s w) at (not-false ((rule config b clock s).anywhere || (is_mine && is_active)) e) in
      eqb-true (table_of b).head.state 1 (both is_mine is_active at).1

pub standby-takes-none : (config : Config) → StandbyTakesNone config
standby-takes-none config b clock s room st used len y inactive w e =
    let other : st ≡ 0 → ⊥ = λ z. inactive (active config b clock s w (here config b clock s room st used len e z)) in
    (other, status-keeps config b clock s room st used len y e other)

-- ---- both rules, without option 0x01
same-request : (s : List ℕ) (h : Header) → forces (shape_of h.opcode) (bytes_in s (extras_span h)) ≡ false → request_of true s h ≡ request_of false s h
unfolding request_of
same-request s h f = rw f

same-ask : (engine : EngineKind) (s : List ℕ) (h : Header) → forces (shape_of h.opcode) (bytes_in s (extras_span h)) ≡ false → SameAsk (ruled engine true) (ruled engine false) s s h h
same-ask engine s h f = record { engine = refl; opcode = refl; opaque = refl; key = refl; reaches = refl; status = refl; request = same-request s h f }

module _ (engine : EngineKind) (b : List ℕ) (clock : ℕ) (s out : List ℕ) (f : asks_force s ≡ false) where
  abbrev gate : Gate
  gate = gate_all (ruled engine false) b (length out) s

  -- a whole frame's header is the received bytes'
  unforced : (h : Header) → gate ≡ Whole h → forces (shape_of h.opcode) (bytes_in s (extras_span h)) ≡ false
  unforced h o = ap (λ (x : Header). forces (shape_of x.opcode) (bytes_in s (extras_span x))) (sym (was-open (ruled engine false) b s (length out) h o).frame.header) ∙ forces-said s ∙ f

  abbrev By : Gate → Type 0
  By g =
      (answer_by (ruled engine true) b clock s g ≡ answer_by (ruled engine false) b clock s g)
      × ((table_by (ruled engine true) b clock s g ≡ table_by (ruled engine false) b clock s g)
      × (reply_by (ruled engine true) b clock s out g ≡ reply_by (ruled engine false) b clock s out g))

  by-gate : (g : Gate) → gate ≡ g → By g
  unfolding frame_effect
  by-gate (Stop n need) o = (refl, (refl, refl))
  by-gate (Whole h) o =
      let old = ruled engine true in
      let new = ruled engine false in
      let a = same-ask engine s h (unforced h o) in
      let reply = same-reply old new s s h h a b clock in (
        λ i. Done (same_effect old new s s h h a (table_at (table_of b) clock) (clock_at (table_of b) clock) i).status (24 + h.body) (length (reply i)),
        (same-table old new s s h h a b clock, ap (written out 0) reply),
      )

  alike : ServedSame (ruled engine true) (ruled engine false) b clock s out
  unfolding served served_table served_reply gate_all sound_by
  alike = let p = by-gate gate refl in record { answer = p.0; table = p.1.0; reply = p.1.1 }

pub rules-alike : RulesAlike
rules-alike engine b clock s out f = alike engine b clock s out f
