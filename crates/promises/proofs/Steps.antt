-- One call on a good table's memory leaves a good table's: its kept clock is the later one where the call raises it, and but for a key that is written and those purged its documents are as before.
use Prim.Native.Nat.{ℕ, ◌+◌, ◌^◌, ◌≤◌, ◌<◌, max}
use mathlib.Core.Path.{◌≡◌, refl, sym, ap, subst, ◌∙◌}
use mathlib.Core.Bool.{Bool, false, cond, not, ◌&&◌}
use mathlib.Core.List.{List}
use mathlib.Core.Logic.{◌⊎◌, inl, inr}
use Rattle.std.specs.Prelude.{Option, Some, None}
use lib.ListN.{length}
use lib.Dec.{eqb, ltb}
use borrow.Author.Tests.{eq-eqb}
use Rattle.engine.specs.declared.Config.{Config}
use Rattle.octets.specs.Parts.{Bytes}
use Rattle.octets.specs.Compare.{same}
use Rattle.octets.proofs.Choices.{cases}
use Rattle.octets.proofs.Options.{options, none-some}
use Rattle.document.specs.Documents.{Key, Doc}
use Rattle.document.specs.Stored.{gone_doc}
use Rattle.shape.specs.Shapes.{among}
use Rattle.header.specs.declared.Header.{Header}
use Rattle.header.specs.Header.{header_of}
use Rattle.request.specs.Reading.{Gate, Stop, Whole, gate_of}
use Rattle.decision.specs.Decide.{Effect}
use Rattle.engine.specs.Engine.{store_row, after_purge}
use Rattle.rows.specs.Table.{Table, table_of, table_at, clock_at, table_bytes}
use Rattle.rows.specs.Find.{find_row}
use Rattle.engines.specs.Engines.{engine_of}
use Rattle.engines.specs.Damage.{sound_by}
use Rattle.engines.specs.Claims.{GoodBy}
use Rattle.engines.proofs.EngineLaws.{engines-laws}
use Rattle.engines.proofs.Tables.{purge-good-by, good-sound-by, clock-good-by}
use Rattle.owning.specs.Owner.{purge_of, purged_table, purged_bytes, is_dead, activated_table}
use Rattle.owning.proofs.Activating.{active-good, good-dead, good-active}
use Rattle.serving.specs.Serve.{served_outcome, served_status, gate_all, frame_effect, frame_change, frame_table, answer_by, table_by, served, served_table}
use Rattle.serving.proofs.Formed.{no, by_cond}
use Rattle.serving.proofs.Gated.{was-open}
use Rattle.serving.proofs.Change.{changing, change-good}
use Rattle.serving.proofs.Clock.{clock-stays}
use Rattle.promises.specs.Expiry.{opcode, key_in}
use Rattle.promises.specs.Clock.{TableCall, Serve, Purge, Read, Activate, clock_of, table_called, raises, Given, read_only, writes_key}
use Rattle.promises.proofs.Keeps.{nothing_stored}
use Rattle.promises.proofs.Alive.{read-only-keeps}

-- what is left of a key's document: all of it, or nothing
abbrev pub Left : Option Doc → Option Doc → Type 0
Left o p = (p ≡ o) ⊎ (p ≡ None)

-- after a call at a clock that raises the kept clock or doesn't, and writes some keys
pub record Stepped (config : Config) (t : Table) (after : List ℕ) (raised : Bool) (clock : ℕ) (writes : Key → Bool) : Type 0 where
  pub table : Table
  pub good : GoodBy config table
  pub bytes : after ≡ table_bytes table
  pub kept : table.head.clock ≡ cond raised (max t.head.clock clock) t.head.clock
  pub docs : (k : Key) → writes k ≡ false → Left (find_row t.rows k) (find_row table.rows k)

abbrev pub Steps : Config → Table → TableCall → Type 0
Steps config t x = Stepped config t (table_called config (table_bytes t) x) (raises config (table_bytes t) x) (clock_of x) (λ k. writes_key config (table_bytes t) x k)

-- ---- an outcome other than 0 where a call is refused
abbrev Stops : Gate → Type 0
Stops (Stop n need) = eqb n 0 ≡ false
Stops (Whole h) = Unit {0}

stops : (config : Config) (b : List ℕ) (room : ℕ) (s : List ℕ) → Stops (gate_all config b room s)
unfolding gate_all gate_of
stops config b room s =
    by_cond Stops (not (sound_by config b)) _ _ (λ t. refl)
    (λ t. by_cond Stops (ltb room 1302) _ _ (λ u. refl)
    (λ u. by_cond Stops (ltb (length s) 24) _ _ (λ v. refl)
    (λ v. by_cond Stops (not (eqb (header_of s).magic 0x80)) _ _ (λ w. refl)
    (λ w. by_cond Stops (ltb 1400 (header_of s).body) _ _ (λ x. refl)
    (λ x. by_cond Stops (ltb (length s) (24 + (header_of s).body)) _ _ (λ y. refl) (λ y. tt))))))

module _ (config : Config) (t : Table) (g : GoodBy config t) where
  abbrev b : List ℕ
  b = table_bytes t

  back : table_of b ≡ t
  back = (good-sound-by config t g).1

  -- ---- serving
  module _ (clock : ℕ) (s : List ℕ) (z : Bytes s) (c : clock < 2 ^ 32) where
    abbrev h : Header
    h = header_of s

    abbrev u : Table
    u = table_at t clock

    abbrev now : ℕ
    now = clock_at t clock

    abbrev effect : Effect
    effect = frame_effect config u now s h

    good-now : GoodBy config u
    good-now = clock-good-by config t clock g c

    -- by the gate
    abbrev writes_by : Gate → Key → Bool
    writes_by gate k =
        eqb (served_outcome (answer_by config b clock s gate)) 0
        && (eqb (served_status (answer_by config b clock s gate)) 0 && (not (among (opcode s) read_only) && same (key_in s) k))

    abbrev By : Gate → Type 0
    By gate = Stepped config t (table_by config b clock s gate) (eqb (served_outcome (answer_by config b clock s gate)) 0) clock (writes_by gate)

    -- what is stored is for a key that is written
    apart : (d : Doc) (k : Key) → effect.store ≡ Some d → (eqb effect.status 0 && (not (among (opcode s) read_only) && same (key_in s) k)) ≡ false
        → same (key_in s) k ≡ false
    apart d k e f =
        cases (eqb effect.status 0)
        (λ y. cases (among (opcode s) read_only) (λ r. none-some d (sym (read-only-keeps config u now s r) ∙ e)) (λ r. rw (y, r) at f))
        (λ y. none-some d (sym (nothing_stored config u now s h (λ q. no (sym y ∙ eq-eqb effect.status 0 q))).0 ∙ e))

    module _ (inside : 24 + h.body ≤ length s) where
      clock-kept : effect.head.clock ≡ max t.head.clock clock
      clock-kept = clock-stays config u now s h good-now.good z inside

      unwritten : (k : Key) → (eqb effect.status 0 && (not (among (opcode s) read_only) && same (key_in s) k)) ≡ false
          → find_row (store_row (engine_of config) t.rows (key_in s) effect.store) k ≡ find_row t.rows k
      unwritten k f =
          let stored : Option Doc → Option Doc = λ o. find_row (store_row (engine_of config) t.rows (key_in s) o) k in
          options effect.store
          (λ e. ap stored e)
          (λ d e.
          let room = ((changing config u now s h good-now.good z inside).stores d e).room in
          ap stored e ∙ (engines-laws config).find-put t.rows (key_in s) d g.kept room k ∙ rw (apart d k e f))

      whole : By (Whole h)
      unfolding frame_table
      whole = record {
        table = frame_change config u now s h;
        good = change-good config u now s h good-now z inside;
        bytes = ap (λ (x : Table). table_bytes (frame_change config (table_at x clock) (clock_at x clock) s h)) back;
        kept = clock-kept;
        docs = λ k f.
            let status = ap (λ (x : Table). (frame_effect config (table_at x clock) (clock_at x clock) s h).status) back in
            inl (unwritten k (ap (λ (n : ℕ). eqb n 0 && (not (among (opcode s) read_only) && same (key_in s) k)) (sym status) ∙ f));
      }

    by-gate : (room : ℕ) (gate : Gate) → gate_all config b room s ≡ gate → By gate
    by-gate room (Stop n need) o =
        let f : eqb n 0 ≡ false = subst Stops o (stops config b room s) in
        record { table = t; good = g; bytes = refl; kept = rw f; docs = λ k _. inl refl }
    by-gate room (Whole f) o =
        let w = (was-open config b s room f o).frame in
        subst (λ (x : Header). By (Whole x)) w.header (whole (subst (λ (x : Header). 24 + x.body ≤ length s) (sym w.header) w.inside))

  -- ---- a purge
  module _ (clock bound : ℕ) (c : clock < 2 ^ 32) where
    abbrev goes : Doc → Bool
    goes = gone_doc (clock_at t clock) bound

    left_by : (o : Option Doc) → Left o (after_purge goes o)
    left_by None = inl refl
    left_by (Some d) = cases (goes d) (λ p. rw p (inr refl)) (λ p. rw p (inl refl))

    pub purged-doc : (k : Key) → find_row ((engine_of config).purge t.rows goes) k ≡ after_purge goes (find_row t.rows k)
    purged-doc k = (engines-laws config).find-purge t.rows goes g.kept k

    pub purged-bytes : purged_bytes config b clock bound ≡ table_bytes (purged_table config (table_at t clock) goes)
    unfolding purged_bytes
    purged-bytes =
        rw (good-sound-by config t g).0
        (ap (λ (x : Table). table_bytes (purged_table config (table_at x clock) (gone_doc (clock_at x clock) bound))) back)

    pub purged-good : GoodBy config (purged_table config (table_at t clock) goes)
    purged-good = purge-good-by config (table_at t clock) goes (clock-good-by config t clock g c)

    purges : Steps config t (Purge clock bound)
    unfolding purge_of
    purges = record {
      table = purged_table config (table_at t clock) goes;
      good = purged-good;
      bytes = purged-bytes;
      kept = rw (good-sound-by config t g).0;
      docs = λ k _. subst (Left (find_row t.rows k)) (sym (purged-doc k)) (left_by (find_row t.rows k));
    }

  -- ---- making it active
  activates : Steps config t Activate
  activates =
      cases (is_dead t.head)
      (λ d. record { table = t; good = g; bytes = (good-dead config t g d).1; kept = refl; docs = λ k _. inl refl })
      (λ d. record { table = activated_table t; good = active-good config t g; bytes = (good-active config t g d).1; kept = refl; docs = λ k _. inl refl })

  -- ---- any call
  pub step : (x : TableCall) → Given x → Steps config t x
  unfolding served served_table
  step (Serve c) p = by-gate c.clock c.received p.0 p.1 (length c.reply) (gate_all config b (length c.reply) c.received) refl
  step (Purge clock bound) p = purges clock bound p
  step (Read clock k) p = record { table = t; good = g; bytes = refl; kept = refl; docs = λ j _. inl refl }
  step Activate p = activates
