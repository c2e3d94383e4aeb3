-- Serving goes by the write that the extras carry, and not by their layout.
use Prim.Native.Nat.{ℕ, ◌+◌, ◌-◌, ◌≤◌}
use mathlib.Core.Path.{◌≡◌, refl, sym, ap, ◌∙◌}
use mathlib.Core.Bool.{Bool, true, not, cond, ◌&&◌}
use mathlib.Core.List.{List}
use native.Mathlib.Omega.{arith}
use lib.ListN.{length, take}
use lib.Dec.{ltb, leb, eqb}
use lib.Seq.{take-take}
use borrow.Author.Tests.{leb-true}
use Rattle.octets.specs.Parts.{written}
use Rattle.octets.proofs.Choices.{cases, both}
use Rattle.octets.proofs.Lists.{part_length}
use Rattle.shape.specs.Shapes.{among, shape_of}
use Rattle.header.specs.declared.Header.{Header}
use Rattle.header.specs.Header.{header_of}
use Rattle.with_meta.specs.declared.WithMeta.{WithMeta}
use Rattle.with_meta.specs.WithMeta.{with_meta}
use Rattle.with_meta.specs.FieldRules.{with_meta_ok}
use Rattle.rules.specs.Rules.{form_ok, meta_size, field_rules_ok, keeps_rules, is_forced, forces, judged, status}
use Rattle.request.proofs.Gated.{whole-frame}
use Rattle.request.specs.Reading.{Gate, Stop, Whole, frame_status, extras_span, value_span, bytes_in}
use Rattle.commands.specs.declared.MetaKind.TheVariants.{Set, Add, Delete}
use Rattle.decision.specs.Decide.{Effect}
use Rattle.decode.specs.Decode.{meta_command, command_of, bare_value, request_of}
use Rattle.engine.specs.declared.Config.{Config}
use Rattle.engines.specs.Damage.{sound_by}
use Rattle.rows.specs.Table.{table_of, table_at, clock_at}
use Rattle.serving.specs.Serve.{served_outcome, served_status, served_length, served_needed, gate_all}
use Rattle.serving.specs.Serve.{reaches_decision, answer_by, table_by, reply_by, served, served_table, served_reply}
use Rattle.serving.proofs.SameAsk.{SameAsk, same_effect, same-table, same-reply}
use Rattle.promises.specs.Expiry.{extras_in, value_in, with_metas}
use Rattle.promises.proofs.Asks.{at-opcode}
use Rattle.layouts.specs.Layouts.{RightForm, OneWrite, ServedAlike, EitherLayout}

-- ---- what goes by the write alone
-- the command, by its opcode
same-command : (n : ℕ) (e e' : List ℕ) → among n with_metas ≡ true → with_meta e ≡ with_meta e' → command_of (shape_of n).operation e ≡ command_of (shape_of n).operation e'
unfolding shape_of command_of
same-command n e e' m w =
    at-opcode (λ x. command_of (shape_of x).operation e ≡ command_of (shape_of x).operation e') n with_metas
    (ap (meta_command Set) w, (ap (meta_command Set) w, (ap (meta_command Add) w, (ap (meta_command Add) w, (ap (meta_command Delete) w, (ap (meta_command Delete) w, tt)))))) m

-- the field rules
same-fields : (n : ℕ) (e e' value : List ℕ) → among n with_metas ≡ true → with_meta e ≡ with_meta e' → field_rules_ok (shape_of n) e value ≡ field_rules_ok (shape_of n) e' value
unfolding shape_of field_rules_ok
same-fields n e e' value m w =
    let set : with_meta_ok 1 (with_meta e) value ≡ with_meta_ok 1 (with_meta e') value = ap (λ (x : WithMeta). with_meta_ok 1 x value) w in
    let delete : with_meta_ok 2 (with_meta e) value ≡ with_meta_ok 2 (with_meta e') value = ap (λ (x : WithMeta). with_meta_ok 2 x value) w in
    at-opcode (λ x. field_rules_ok (shape_of x) e value ≡ field_rules_ok (shape_of x) e' value) n with_metas
    (set, (set, (set, (set, (delete, (delete, tt)))))) m

-- option 0x01
same-forces : (n : ℕ) (e e' : List ℕ) → with_meta e ≡ with_meta e' → forces (shape_of n) e ≡ forces (shape_of n) e'
unfolding forces
same-forces n e e' w = ap (λ (x : WithMeta). not (eqb (shape_of n).meta 0) && is_forced x) w

-- the bytes of extended meta
same-meta : (n : ℕ) (e e' : List ℕ) → with_meta e ≡ with_meta e' → meta_size (shape_of n) e ≡ meta_size (shape_of n) e'
unfolding meta_size with_meta
same-meta n e e' w = ap (λ (x : WithMeta). cond (eqb (shape_of n).meta 0) 0 x.section) w

-- the reader's status of a right form
abbrev status_for : ℕ → Bool → Bool → ℕ → ℕ
status_for n fields forced size = cond (not (eqb (shape_of n).status 0)) (shape_of n).status (cond (not fields) 0x04 (cond forced 0x83 (cond (ltb 1024 size) 0x03 0)))

status-by : (s : List ℕ) (h : Header) → form_ok (shape_of h.opcode) h ≡ true
    → frame_status s h
    ≡ status_for h.opcode (field_rules_ok (shape_of h.opcode) (bytes_in s (extras_span h)) (bytes_in s (value_span h))) (forces (shape_of h.opcode) (bytes_in s (extras_span h)))
    (length (bytes_in s (value_span h)) - meta_size (shape_of h.opcode) (bytes_in s (extras_span h)))
unfolding frame_status status judged
status-by s h e = rw e

-- and whether it goes on
reaches-by : (s : List ℕ) (h : Header) → form_ok (shape_of h.opcode) h ≡ true
    → reaches_decision s h ≡ (eqb (shape_of h.opcode).status 0 && field_rules_ok (shape_of h.opcode) (bytes_in s (extras_span h)) (bytes_in s (value_span h)))
unfolding keeps_rules
reaches-by s h e = rw e

-- a value before its extended meta is cut from what follows the key
module _ (s : List ℕ) (h : Header) (whole : 24 + h.body ≤ length s) (form : form_ok (shape_of h.opcode) h ≡ true) where
  abbrev section : ℕ
  section = meta_size (shape_of h.opcode) (bytes_in s (extras_span h))

  pub inside : h.extlen + h.keylen ≤ h.body
  unfolding form_ok
  inside =
      let a = both (eqb h.datatype 0) _ form in
      leb-true (h.extlen + h.keylen) h.body (both (leb (h.extlen + h.keylen) h.body) _ a.1).0

  value-length : length (bytes_in s (value_span h)) ≡ (value_span h).len
  unfolding value_span
  value-length = part_length s (value_span h).at (value_span h).len (omega (arith, inside))

  bare-cut : bare_value s h ≡ take (length (bytes_in s (value_span h)) - section) (bytes_in s (value_span h))
  unfolding bare_value
  bare-cut = rw (value-length, take-take ((value_span h).len - section) (value_span h).len _ (omega arith))

-- ---- two frames that carry one write
module _ (config : Config) (s s' : List ℕ) (formed : RightForm s) (formed' : RightForm s') (o : OneWrite s s') where
  abbrev h : Header
  h = header_of s

  abbrev h' : Header
  h' = header_of s'

  meta : meta_size (shape_of h.opcode) (extras_in s) ≡ meta_size (shape_of h'.opcode) (extras_in s')
  meta = same-meta h.opcode (extras_in s) (extras_in s') o.write ∙ ap (λ (n : ℕ). meta_size (shape_of n) (extras_in s')) o.opcode

  fields : field_rules_ok (shape_of h.opcode) (extras_in s) (value_in s) ≡ field_rules_ok (shape_of h'.opcode) (extras_in s') (value_in s')
  fields =
      same-fields h.opcode (extras_in s) (extras_in s') (value_in s) formed.command o.write
      ∙ (λ i. field_rules_ok (shape_of (o.opcode i)) (extras_in s') (o.value i))

  forced : forces (shape_of h.opcode) (extras_in s) ≡ forces (shape_of h'.opcode) (extras_in s')
  forced = same-forces h.opcode (extras_in s) (extras_in s') o.write ∙ ap (λ (n : ℕ). forces (shape_of n) (extras_in s')) o.opcode

  same-status : frame_status s h ≡ frame_status s' h'
  same-status =
      status-by s h formed.form
      ∙ (λ i. status_for (o.opcode i) (fields i) (forced i) (length (o.value i) - meta i))
      ∙ sym (status-by s' h' formed'.form)

  same-reaches : reaches_decision s h ≡ reaches_decision s' h'
  same-reaches =
      reaches-by s h formed.form
      ∙ (λ i. eqb (shape_of (o.opcode i)).status 0 && fields i)
      ∙ sym (reaches-by s' h' formed'.form)

  same-value : bare_value s h ≡ bare_value s' h'
  same-value =
      bare-cut s h (whole-frame s h formed.whole).inside formed.form
      ∙ (λ i. take (length (o.value i) - meta i) (o.value i))
      ∙ sym (bare-cut s' h' (whole-frame s' h' formed'.whole).inside formed'.form)

  same-request : request_of config.forcing s h ≡ request_of config.forcing s' h'
  unfolding request_of
  same-request =
      let command : command_of (shape_of h.opcode).operation (extras_in s) ≡ command_of (shape_of h'.opcode).operation (extras_in s') =
      same-command h.opcode (extras_in s) (extras_in s') formed.command o.write ∙ ap (λ (n : ℕ). command_of (shape_of n).operation (extras_in s')) o.opcode in
      λ i. record {
        vbucket = o.vbucket i;
        cas = o.cas i;
        quiet = (shape_of (o.opcode i)).quiet;
        key = o.key i;
        value = same-value i;
        unsupported = forced i && not config.forcing;
        command = command i;
      }

  same : SameAsk config config s s' h h'
  same = record { engine = refl; opcode = o.opcode; opaque = o.opaque; key = o.key; reaches = same-reaches; status = same-status; request = same-request }

  module _ (b : List ℕ) (clock : ℕ) where
    module _ (out : List ℕ) where
      -- what is alike by the gate is alike
      meet : {A : Type 0} (f f' : Gate → A) → ((n need : ℕ) → f (Stop n need) ≡ f' (Stop n need)) → f (Whole h) ≡ f' (Whole h')
          → f (gate_all config b (length out) s) ≡ f' (gate_all config b (length out) s')
      unfolding gate_all
      meet f f' stops frames =
          cases (sound_by config b)
          (λ q. cases (ltb (length out) 1302) (λ r. rw (q, r) (stops 4 0)) (λ r. rw (q, r, formed.whole, formed'.whole) frames))
          (λ q. rw q (stops 5 0))

      alike : ServedAlike config b clock s s' out
      unfolding served served_table served_reply
      alike =
          let status = ap (λ (x : Effect). x.status) (same_effect config config s s' h h' same (table_at (table_of b) clock) (clock_at (table_of b) clock)) in
          let reply = same-reply config config s s' h h' same b clock in
          record {
            answer = record {
              outcome = meet (λ g. served_outcome (answer_by config b clock s g)) (λ g. served_outcome (answer_by config b clock s' g)) (λ n need. refl) refl;
              status = meet (λ g. served_status (answer_by config b clock s g)) (λ g. served_status (answer_by config b clock s' g)) (λ n need. refl) status;
              reply = meet (λ g. served_length (answer_by config b clock s g)) (λ g. served_length (answer_by config b clock s' g)) (λ n need. refl) (ap length reply);
              needed = meet (λ g. served_needed (answer_by config b clock s g)) (λ g. served_needed (answer_by config b clock s' g)) (λ n need. refl) refl;
            };
            table = meet (table_by config b clock s) (table_by config b clock s') (λ n need. refl) (same-table config config s s' h h' same b clock);
            reply = meet (reply_by config b clock s out) (reply_by config b clock s' out) (λ n need. refl) (ap (written out 0) reply);
          }

pub either-layout : (config : Config) → EitherLayout config
either-layout config b clock s s' out f f' o = alike config s s' f f' o b clock out
