-- A frame for an expired document's key is answered, and leaves every other row, as on the undamaged table with the tombstone of its revision and CAS.
use Prim.Native.Nat.{ℕ, ◌+◌, ◌^◌, ◌≤◌, ◌<◌}
use native.Mathlib.Omega.{arith}
use mathlib.Core.Path.{◌≡◌, refl, sym, ap, subst, ◌∙◌}
use mathlib.Core.Bool.{true, false}
use mathlib.Core.List.{List, [], ◌∷◌}
use mathlib.Core.Logic.{◌⊎◌, inl, inr, ⊎_elim}
use Rattle.std.specs.Prelude.{Option, Some, None}
use lib.ListN.{length}
use lib.Dec.{ltb}
use Rattle.engine.specs.declared.Config.{Config}
use Rattle.octets.specs.Parts.{Bytes, written}
use Rattle.octets.specs.Compare.{same}
use Rattle.octets.proofs.Choices.{cases}
use Rattle.octets.proofs.Options.{options, none-some}
use Rattle.octets.proofs.Tests.{same_true, same_refl}
use Rattle.digits.specs.Decimal.{number_of}
use Rattle.document.specs.Documents.{Key, Doc}
use Rattle.document.specs.Stored.{stored_of, metadata_of, live}
use Rattle.header.specs.declared.Header.{Header}
use Rattle.header.specs.Header.{header_of}
use Rattle.shape.specs.Shapes.{among}
use Rattle.request.specs.Reading.{Gate, Stop, Whole}
use Rattle.decision.specs.Decision.{Decision, decision}
use Rattle.decision.specs.Decide.{Effect, effect_of, context_of, instruction_of}
use Rattle.decode.specs.Decode.{request_of}
use Rattle.engine.specs.Engine.{Room, store_row}
use Rattle.rows.specs.Row.{Row}
use Rattle.rows.specs.Table.{Table, table_of, table_at, clock_at, table_bytes}
use Rattle.rows.specs.Find.{find_row, free_rows}
use Rattle.rows.specs.Good.{EntryGood, AllGood}
use Rattle.plain.specs.Plain.{replace}
use Rattle.engines.specs.Engines.{engine_of}
use Rattle.engines.specs.Damage.{sound_by}
use Rattle.engines.specs.Claims.{GoodBy}
use Rattle.engines.proofs.EngineLaws.{engines-laws, put-replaces}
use Rattle.engines.proofs.Tables.{sound-good-by, good-sound-by, put-good-by}
use Rattle.serving.specs.Reply.{reply_shows, reply_bytes}
use Rattle.serving.specs.Serve.{Served, Done, reaches_decision, decision_on, frame_effect, effect_at, table_changed, frame_change, frame_table, frame_reply}
use Rattle.serving.specs.Serve.{gate_all, answer_by, table_by, reply_by, served, served_table, served_reply}
use Rattle.serving.proofs.Change.{changing, unchanged}
use Rattle.serving.proofs.Gated.{was-open}
use Rattle.promises.specs.Merge.{doc_at}
use Rattle.promises.specs.Kept.{later_at, clock_raised, kept_by}
use Rattle.promises.specs.Expiry.{opcode, extras_in, key_in, with_metas, Expired, tombstone_of, buried, AsBuried, ExpiredIsDead}
use Rattle.promises.proofs.Kept.{raised-good, raised-bytes, good-later, kept-docs}
use Rattle.promises.proofs.Asks.{plain-asked, IsPlain}
use Rattle.promises.proofs.Liveness.{dead, dead-at}
use Rattle.promises.proofs.Alike.{Blind, blind-effect, blind-reply, put-dead, same-decision}

-- ---- rows
pub found-good : (mark : ℕ) (ws : List Row) (k : Key) (d : Doc) → AllGood mark ws → find_row ws k ≡ Some d → EntryGood mark (record { key = k; doc = d })
found-good mark [] k d g e = none-some d e
found-good mark (None ∷ ws) k d g e = found-good mark ws k d g e
found-good mark (Some x ∷ ws) k d g e =
    cases (same x.key k)
    (λ t.
    let f : Some x.doc ≡ Some d = rw t at e in
    let z : x.doc ≡ d = cc in
    let y = same_true x.key k t in
    subst (EntryGood mark) (λ i. record { key = y i; doc = z i }) g.0)
    (λ t. found-good mark ws k d g.1 (rw t at e))

replaced-twice : (ws : List Row) (k : Key) (a d : Doc) → replace (replace ws k a) k d ≡ replace ws k d
replaced-twice [] k a d = refl
replaced-twice (None ∷ ws) k a d = ap (λ (r : List Row). None ∷ r) (replaced-twice ws k a d)
replaced-twice (Some x ∷ ws) k a d =
    cases (same x.key k)
    (λ t. rw (t, same_refl k))
    (λ t. rw t (rw t (ap (λ (r : List Row). Some x ∷ r) (replaced-twice ws k a d))))

-- putting over what was put
put-twice : (config : Config) (ws : List Row) (k : Key) (a d e : Doc) → (engine_of config).Good ws → find_row ws k ≡ Some e
    → (engine_of config).put ((engine_of config).put ws k a) k d ≡ (engine_of config).put ws k d
put-twice config ws k a d e g f =
    let room : Room (engine_of config) ws k = λ n. none-some e (sym n ∙ f) in
    let there : find_row ((engine_of config).put ws k a) k ≡ Some a = (engines-laws config).find-put ws k a g room k ∙ rw (same_refl k) in
    put-replaces config ((engine_of config).put ws k a) k d a ((engines-laws config).good-put ws k a g room) there
    ∙ ap (λ (r : List Row). replace r k d) (put-replaces config ws k a e g f)
    ∙ replaced-twice ws k a d
    ∙ sym (put-replaces config ws k d e g f)

module _ (config : Config) (b : List ℕ) (clock : ℕ) (s : List ℕ) (d : Doc) (y : Bytes b) (z : Bytes s) (small : clock < 2 ^ 32) (undamaged : sound_by config b ≡ true)
    (there : doc_at b (key_in s) ≡ Some d)
    (past : Expired (later_at b clock) d) (Plain-op : among (opcode s) with_metas ≡ false) where
  abbrev h : Header
  h = header_of s

  abbrev k : Key
  k = key_in s

  -- the table, and at the call's clock
  abbrev t₀ : Table
  t₀ = table_of b

  abbrev t : Table
  t = table_at t₀ clock

  -- the later clock
  abbrev c : ℕ
  c = clock_at t₀ clock

  -- the table with the tombstone, at the call's clock, and its memory
  abbrev u₀ : Table
  u₀ = record { head = t₀.head; rows = (engine_of config).put t₀.rows k (tombstone_of d) }

  abbrev u : Table
  u = table_at u₀ clock

  abbrev grave : List ℕ
  grave = buried config b k d

  good₀ : GoodBy config t₀
  good₀ = (sound-good-by config b y undamaged).1

  good : GoodBy config t
  good = good-later config b clock y undamaged small

  room : Room (engine_of config) t.rows k
  room e = none-some d (sym e ∙ there)

  entry : EntryGood t.head.mark.0 (record { key = k; doc = tombstone_of d })
  entry =
      let g = found-good t.head.mark.0 t.rows k d good.good.rows there in
      record {
        key-least = g.key-least;
        key-most = g.key-most;
        value-most = omega arith;
        bare = λ e. (refl, refl, refl);
        flags = omega arith;
        expiry = omega arith;
        revision = g.revision;
        cas-least = g.cas-least;
        cas-most = g.cas-most;
      }

  good-grave : GoodBy config u₀
  good-grave = put-good-by config t₀ k (tombstone_of d) good₀ entry room

  grave-sound : sound_by config grave ≡ true
  grave-sound = (good-sound-by config u₀ good-grave).0

  grave-table : table_of grave ≡ u₀
  grave-table = (good-sound-by config u₀ good-grave).1

  grave-found : find_row u.rows k ≡ Some (tombstone_of d)
  grave-found = (engines-laws config).find-put t.rows k (tombstone_of d) good.kept room k ∙ rw (same_refl k)

  grave-free : free_rows u.rows ≡ free_rows t.rows
  grave-free = (engines-laws config).free-old t.rows k (tombstone_of d) d good.kept there

  -- ---- the decision
  abbrev Same : Decision → Decision → Type 0
  Same x x' = (x ≡ x') × Blind x.done

  plain-command : IsPlain (request_of config.forcing s h).command
  unfolding request_of
  plain-command = plain-asked (opcode s) (extras_in s) Plain-op

  dead-row : live (stored_of (Some d)) c ≡ false
  dead-row = dead-at b clock (Some d) (inr past)

  dead-grave : live (stored_of (Some (tombstone_of d))) c ≡ false
  dead-grave = dead c (Some (tombstone_of d)) (inl refl)

  -- the decision where the key has this document and so many rows are free
  abbrev with : Option Doc → ℕ → Decision
  with o free = decision (context_of t.head o (ltb 0 free) c) (instruction_of (request_of config.forcing s h))

  rows_alike : Same (with (find_row t.rows k) (free_rows t.rows)) (with (find_row u.rows k) (free_rows u.rows))
  rows_alike =
      let alike = same-decision t.head (ltb 0 (free_rows t.rows)) c (metadata_of d) (metadata_of (tombstone_of d)) (number_of d.value) (number_of []) (length d.value) 0
      dead-row dead-grave refl refl (instruction_of (request_of config.forcing s h)) plain-command in
      let e : with (find_row t.rows k) (free_rows t.rows) ≡ with (Some d) (free_rows t.rows) = λ j. with (there j) (free_rows t.rows) in
      let f : with (find_row u.rows k) (free_rows u.rows) ≡ with (Some (tombstone_of d)) (free_rows t.rows) = λ j. with (grave-found j) (grave-free j) in
      (e ∙ alike.0 ∙ sym f, subst (λ (x : Decision). Blind x.done) (sym e) alike.1)

  decided : Same (decision_on config t c s h) (decision_on config u c s h)
  unfolding decision_on
  decided = cases (reaches_decision s h) (λ r. rw r rows_alike) (λ r. rw r (refl, (tt, tt)))

  effects : frame_effect config t c s h ≡ frame_effect config u c s h
  unfolding frame_effect
  effects =
      blind-effect (request_of config.forcing s h) (find_row t.rows k) (find_row u.rows k) (decision_on config t c s h) decided.1
      ∙ ap (effect_of (request_of config.forcing s h) (find_row u.rows k)) decided.0

  -- ---- a whole frame
  replies : frame_reply config b clock s h ≡ frame_reply config grave clock s h
  unfolding frame_reply
  replies =
      let keys = put-dead config c t.rows k d (tombstone_of d) good.kept there dead-row dead-grave in
      let shown : Table → Decision → List ℕ = λ v x. reply_bytes h.opcode h.opaque x k (reply_shows x.done.reply v.rows (clock_at v clock) k) in
      blind-reply t.rows u.rows c k keys h.opcode h.opaque (decision_on config t c s h) decided.1
      ∙ ap (shown u₀) decided.0
      ∙ ap (λ (v : Table). shown v (decision_on config (table_at v clock) (clock_at v clock) s h)) (sym grave-table)

  module _ (inside : 24 + h.body ≤ length s) where
    abbrev Ends : Type 0
    Ends = (frame_table config b clock s h ≡ frame_table config grave clock s h)
        ⊎ ((frame_table config b clock s h ≡ clock_raised b clock) × (frame_table config grave clock s h ≡ clock_raised grave clock))

    -- a frame on the table with the tombstone
    abbrev changed : Table → Table
    changed v = frame_change config (table_at v clock) (clock_at v clock) s h

    abbrev effect : Effect
    effect = frame_effect config t c s h

    -- nothing stored: both stay, but for the kept clock
    stay : effect.store ≡ None → Ends
    unfolding frame_table
    stay e =
        let head = (changing config t c s h good.good z inside).keeps e in
        let kept = ap table_bytes (unchanged config t c s h e head) ∙ raised-bytes config b clock y undamaged in
        let at = ap (λ (x : Effect). x.store) (sym effects) ∙ e in
        let top = ap (λ (x : Effect). x.head) (sym effects) ∙ head in
        inr (kept, ap (λ (v : Table). table_bytes (changed v)) grave-table ∙ ap table_bytes (unchanged config u c s h at top) ∙ raised-good config u₀ good-grave clock)

    -- the table with these rows and the new head
    abbrev with_rows : List Row → Table
    with_rows r = record { head = effect.head; rows = r }

    -- a document stored: the tombstone's row is written over
    written_over : (e : Doc) → effect.store ≡ Some e → Ends
    unfolding frame_table
    written_over e stores =
        let rows = put-twice config t.rows k (tombstone_of d) e d good.kept there in
        let mine = ap (λ (o : Option Doc). with_rows (store_row (engine_of config) t.rows k o)) stores in
        let its = ap (λ (x : Effect). table_changed config u k x) (sym effects) ∙ ap (λ (o : Option Doc). with_rows (store_row (engine_of config) u.rows k o)) stores in
        inl (ap table_bytes (mine ∙ ap with_rows (sym rows) ∙ sym its) ∙ ap (λ (v : Table). table_bytes (changed v)) (sym grave-table))

    ends : Ends
    ends = options effect.store stay written_over

  -- ---- a call
  gates : (n : ℕ) → gate_all config b n s ≡ gate_all config grave n s
  unfolding gate_all
  gates n = rw (undamaged, grave-sound)

  statuses-alike : (effect_at config b clock s h).status ≡ (effect_at config grave clock s h).status
  statuses-alike = ap (λ (x : Effect). x.status) effects ∙ ap (λ (v : Table). (frame_effect config (table_at v clock) (clock_at v clock) s h).status) (sym grave-table)

  module _ (out : List ℕ) where
    -- what an answer leaves where nothing is stored
    abbrev Keeps : List ℕ → Gate → Type 0
    Keeps m g = table_by config m clock s g ≡ kept_by (answer_by config m clock s g) m clock

    abbrev By : Gate → Type 0
    By g = (answer_by config b clock s g ≡ answer_by config grave clock s g)
        × ((reply_by config b clock s out g ≡ reply_by config grave clock s out g)
        × ((table_by config b clock s g ≡ table_by config grave clock s g) ⊎ (Keeps b g × Keeps grave g)))

    whole : 24 + h.body ≤ length s → By (Whole h)
    whole inside = (
      λ j. Done (statuses-alike j) (24 + h.body) (length (replies j)),
      (ap (λ (r : List ℕ). written out 0 r) replies, ends inside),
    )

    by-gate : (g : Gate) → gate_all config b (length out) s ≡ g → By g
    by-gate (Stop n need) o = (refl, (refl, inr (refl, refl)))
    by-gate (Whole f) o =
        let w = (was-open config b s (length out) f o).frame in
        subst (λ (x : Header). By (Whole x)) w.header (whole (subst (λ (x : Header). 24 + x.body ≤ length s) (sym w.header) w.inside))

    abbrev now : By (gate_all config b (length out) s)
    now = by-gate (gate_all config b (length out) s) refl

    abbrev n : ℕ
    n = length out

    abbrev EndsServed : Type 0
    EndsServed = (served_table config b clock s n ≡ served_table config grave clock s n)
        ⊎ ((served_table config b clock s n ≡ kept_by (served config b clock s n) b clock) × (served_table config grave clock s n ≡ kept_by (served config grave clock s n) grave clock))

    tables : EndsServed
    unfolding served served_table
    tables =
        let gate = ap (table_by config grave clock s) (gates n) in
        ⊎_elim (λ e. inl (e ∙ gate)) (λ e. inr (e.0, subst (Keeps grave) (gates n) e.1)) now.1.1

    -- another key has in both tables what it had
    apart : (j : Key) → same k j ≡ false → doc_at b j ≡ doc_at grave j
    apart j f =
        sym (ap (λ (x : Table). find_row x.rows j) grave-table ∙ (engines-laws config).find-put t.rows k (tombstone_of d) good.kept room j ∙ rw f)

    -- and the kept clock's bytes show none of it
    kept_here : (a : Served) (j : Key) → doc_at (kept_by a b clock) j ≡ doc_at b j
    kept_here a j =
        let back = (sound-good-by config b y undamaged).0 in
        subst (λ (m : List ℕ). doc_at (kept_by a m clock) j ≡ doc_at m j) back (kept-docs config t₀ good₀ clock a small j)

    others_by : EndsServed → (j : Key) → same k j ≡ false → doc_at (served_table config b clock s n) j ≡ doc_at (served_table config grave clock s n) j
    others_by (inl e) j f = ap (λ (m : List ℕ). doc_at m j) e
    others_by (inr e) j f =
        ap (λ (m : List ℕ). doc_at m j) e.0 ∙ kept_here (served config b clock s n) j ∙ apart j f
        ∙ sym (kept-docs config u₀ good-grave clock (served config grave clock s n) small j) ∙ ap (λ (m : List ℕ). doc_at m j) (sym e.1)

    as-buried : AsBuried config b grave clock s out
    unfolding served served_reply
    as-buried = record {
      undamaged = grave-sound;
      answer = now.0 ∙ ap (answer_by config grave clock s) (gates n);
      reply = now.1.0 ∙ ap (reply_by config grave clock s out) (gates n);
      table = tables;
      others = others_by tables;
    }

pub expired-is-dead : (config : Config) → ExpiredIsDead config
expired-is-dead config b clock s out d y z small undamaged there past Plain-op = as-buried config b clock s d y z small undamaged there past Plain-op out
