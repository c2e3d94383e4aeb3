-- One call of serving on twin tables: the gates, the decision, the reply and what is stored are the same.
use Prim.Native.Nat.{ℕ, ◌+◌, ◌^◌, ◌≤◌, ◌<◌}
use mathlib.Core.Path.{◌≡◌, refl, sym, ap, subst, ◌∙◌}
use mathlib.Core.Bool.{cond}
use mathlib.Core.List.{List}
use Rattle.std.specs.Prelude.{Option, Some, None}
use lib.ListN.{length}
use lib.Dec.{ltb}
use Rattle.octets.specs.Parts.{Bytes, written}
use Rattle.header.specs.declared.Header.{Header}
use Rattle.request.specs.Reading.{Gate, Stop, Whole, frame_status, bytes_in, key_span}
use Rattle.document.specs.Documents.{Key, Doc, doc_value}
use Rattle.engine.specs.declared.Config.{Config}
use Rattle.engine.specs.Engine.{store_row}
use Rattle.engine.specs.Alike.{Alike}
use Rattle.listing.proofs.Exact.{by-documents}
use Rattle.effects.specs.declared.Reply.{Reply}
use Rattle.effects.specs.declared.Reply.TheVariants.{Bare, Found, Counted, Version as VersionReply, Keys}
use Rattle.decision.specs.Decision.{Decision, decision}
use Rattle.decision.specs.Decide.{Effect, context_of, instruction_of, effect_of}
use Rattle.decode.specs.Decode.{request_of}
use Rattle.rows.specs.Table.{Table, table_of, table_at, clock_at, table_bytes}
use Rattle.plain.specs.Plain.{used_rows}
use Rattle.engines.specs.Engines.{engine_of}
use Rattle.engines.proofs.EngineLaws.{engines-laws, engines-alike}
use Rattle.engines.proofs.Tables.{good-sound-by}
use Rattle.serving.specs.Reply.{reply_shows, reply_bytes}
use Rattle.serving.specs.Serve.{Done, gate_all, reaches_decision, refusal, decision_on, frame_effect, frame_change, frame_table, frame_reply}
use Rattle.serving.specs.Serve.{answer_by, table_by, reply_by, served, served_table, served_reply}
use Rattle.serving.proofs.Gated.{was-open}
use Rattle.serving.proofs.Change.{changing, change-good}
use Rattle.agreement.proofs.Twins.{Twin, Twins, twins, by-tables, free-alike, clock-alike, twin-at}

-- ---- a whole frame on tables that keep a call's clock
module _ (config other : Config) (t u : Table) (w : Twin config other t u) (now : ℕ) (s : List ℕ) (h : Header) where
  abbrev key : Key
  key = bytes_in s (key_span h)

  -- a decision sees the head, the key's document and whether a row is free
  pub decision-alike : decision_on config t now s h ≡ decision_on other u now s h
  unfolding decision_on
  decision-alike =
      λ i. cond (reaches_decision s h)
      (decision (context_of (w.head i) (w.alike.find key i) (ltb 0 (free-alike config other t u w i)) now) (instruction_of (request_of (w.rule i) s h)))
      (refusal (w.head i) (frame_status s h))

  pub effect-alike : frame_effect config t now s h ≡ frame_effect other u now s h
  unfolding frame_effect
  effect-alike = λ i. effect_of (request_of (w.rule i) s h) (w.alike.find key i) (decision-alike i)

  -- a reply shows the key's value, or the keys listed of the documents
  listed : (count : ℕ) → reply_shows (Keys count) t.rows now key ≡ reply_shows (Keys count) u.rows now key
  listed count =
      let L = engines-laws config in
      let M = engines-laws other in
      by-documents (used_rows t.rows) (used_rows u.rows) (L.distinct-docs t.rows w.good.kept) (M.distinct-docs u.rows w.other-good.kept)
      (λ k. sym (L.find-docs t.rows w.good.kept k) ∙ w.alike.find k ∙ M.find-docs u.rows w.other-good.kept k) now key count

  pub shows_alike : (r : Reply) → reply_shows r t.rows now key ≡ reply_shows r u.rows now key
  shows_alike Bare = ap doc_value (w.alike.find key)
  shows_alike (Found flags keyed) = ap doc_value (w.alike.find key)
  shows_alike (Counted n) = ap doc_value (w.alike.find key)
  shows_alike VersionReply = ap doc_value (w.alike.find key)
  shows_alike (Keys count) = listed count

  -- what is stored has room in both
  module _ (y : Bytes s) (inside : 24 + h.body ≤ length s) where
    abbrev store : Option Doc
    store = (frame_effect config t now s h).store

    stored : (o : Option Doc) → store ≡ o → Alike (engine_of config) (engine_of other) (store_row (engine_of config) t.rows key o) (store_row (engine_of other) u.rows key o)
    stored None e = w.alike
    stored (Some d) e = (engines-alike config other).put t.rows u.rows key d w.alike ((changing config t now s h w.good.good y inside).stores d e).room

    pub change-twin : Twin config other (frame_change config t now s h) (frame_change other u now s h)
    change-twin = record {
      good = change-good config t now s h w.good y inside;
      other-good = change-good other u now s h w.other-good y inside;
      rule = w.rule;
      head = ap (λ (x : Effect). x.head) effect-alike;
      alike =
          subst (λ (o : Option Doc). Alike (engine_of config) (engine_of other) (store_row (engine_of config) t.rows key store) (store_row (engine_of other) u.rows key o))
          (ap (λ (x : Effect). x.store) effect-alike) (stored store refl);
    }

-- ---- on their memory
pub record ServedAlike (config other : Config) (b c : List ℕ) (clock : ℕ) (s : List ℕ) (out : List ℕ) : Type 0 where
  pub answer : served config b clock s (length out) ≡ served other c clock s (length out)
  pub reply : served_reply config b clock s out ≡ served_reply other c clock s out
  pub tables : Twins config other (served_table config b clock s (length out)) (served_table other c clock s (length out))

module _ (config other : Config) (t u : Table) (w : Twin config other t u) (clock : ℕ) (s : List ℕ) (y : Bytes s) (c : clock < 2 ^ 32) where
  abbrev b : List ℕ
  b = table_bytes t

  abbrev d : List ℕ
  d = table_bytes u

  abbrev now : ℕ
  now = clock_at t clock

  back : table_of b ≡ t
  back = (good-sound-by config t w.good).1

  other-back : table_of d ≡ u
  other-back = (good-sound-by other u w.other-good).1

  pub gate-alike : (room : ℕ) → gate_all config b room s ≡ gate_all other d room s
  unfolding gate_all
  gate-alike room = rw ((good-sound-by config t w.good).0, (good-sound-by other u w.other-good).0)

  later-alike : clock_at u clock ≡ now
  later-alike = sym (clock-alike config other t u w clock)

  module _ (h : Header) where
    abbrev at : Twin config other (table_at t clock) (table_at u clock)
    at = twin-at config other t u w clock c

    -- what a frame sees of a table's memory is what it sees of the table
    frame-effect : frame_effect config (table_at (table_of b) clock) (clock_at (table_of b) clock) s h ≡ frame_effect other (table_at (table_of d) clock) (clock_at (table_of d) clock) s h
    frame-effect =
        ap (λ (x : Table). frame_effect config (table_at x clock) (clock_at x clock) s h) back
        ∙ effect-alike config other (table_at t clock) (table_at u clock) at now s h
        ∙ ap (λ (n : ℕ). frame_effect other (table_at u clock) n s h) (sym later-alike)
        ∙ sym (ap (λ (x : Table). frame_effect other (table_at x clock) (clock_at x clock) s h) other-back)

    pub reply-alike : frame_reply config b clock s h ≡ frame_reply other d clock s h
    unfolding frame_reply
    reply-alike =
        let key = bytes_in s (key_span h) in
        let replied : Table → ℕ → Decision → List ℕ = λ x n v. reply_bytes h.opcode h.opaque v key (reply_shows v.done.reply x.rows n key) in
        let first = decision_on config (table_at t clock) now s h in
        ap (λ (x : Table). replied x (clock_at x clock) (decision_on config (table_at x clock) (clock_at x clock) s h)) back
        ∙ ap (reply_bytes h.opcode h.opaque first key) (shows_alike config other (table_at t clock) (table_at u clock) at now s h first.done.reply)
        ∙ ap (replied u now) (decision-alike config other (table_at t clock) (table_at u clock) at now s h)
        ∙ ap (λ (n : ℕ). replied u n (decision_on other (table_at u clock) n s h)) (sym later-alike)
        ∙ sym (ap (λ (x : Table). replied x (clock_at x clock) (decision_on other (table_at x clock) (clock_at x clock) s h)) other-back)

    frame-twins : 24 + h.body ≤ length s → Twins config other (frame_table config b clock s h) (frame_table other d clock s h)
    unfolding frame_table
    frame-twins inside = record {
      table = frame_change config (table_at t clock) now s h;
      other-table = frame_change other (table_at u clock) now s h;
      bytes = ap (λ (x : Table). table_bytes (frame_change config (table_at x clock) (clock_at x clock) s h)) back;
      other-bytes =
          ap (λ (x : Table). table_bytes (frame_change other (table_at x clock) (clock_at x clock) s h)) other-back
          ∙ ap (λ (n : ℕ). table_bytes (frame_change other (table_at u clock) n s h)) later-alike;
      twin = change-twin config other (table_at t clock) (table_at u clock) at now s h y inside;
    }

  -- by the gate
  answers : (g : Gate) → answer_by config b clock s g ≡ answer_by other d clock s g
  answers (Stop n need) = refl
  answers (Whole h) = λ i. Done (frame-effect h i).status (24 + h.body) (length (reply-alike h i))

  replies : (out : List ℕ) (g : Gate) → reply_by config b clock s out g ≡ reply_by other d clock s out g
  replies out (Stop n need) = refl
  replies out (Whole h) = ap (written out 0) (reply-alike h)

  tables : (room : ℕ) (g : Gate) → gate_all config b room s ≡ g → Twins config other (table_by config b clock s g) (table_by other d clock s g)
  tables room (Stop n need) e = twins config other t u w
  tables room (Whole h) e = frame-twins h (was-open config b s room h e).frame.inside

  serve-twins : (out : List ℕ) → ServedAlike config other b d clock s out
  unfolding served served_reply served_table
  serve-twins out =
      let g = gate_all config b (length out) s in
      let e = gate-alike (length out) in
      record {
        answer = answers g ∙ ap (answer_by other d clock s) e;
        reply = replies out g ∙ ap (reply_by other d clock s out) e;
        tables = subst (λ (x : Gate). Twins config other (table_by config b clock s g) (table_by other d clock s x)) e (tables (length out) g refl);
      }

pub serve-alike : (config other : Config) (b c : List ℕ) → Twins config other b c → (clock : ℕ) (s : List ℕ) → Bytes s → clock < 2 ^ 32 → (out : List ℕ)
    → ServedAlike config other b c clock s out
serve-alike config other b c w clock s y l out =
    by-tables config other b c w (λ x z. ServedAlike config other x z clock s out) (λ t u v. serve-twins config other t u v clock s y l out)
