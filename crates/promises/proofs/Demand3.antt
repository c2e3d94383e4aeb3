-- Demand 3 on bytes, from the theorem on abstract tables.
use Prim.Native.Nat.{ℕ, ◌^◌, ◌≤◌, ◌<◌}
use mathlib.Core.Path.{◌≡◌, refl, sym, ap, ◌∙◌, subst}
use mathlib.Core.Bool.{Bool}
use mathlib.Core.List.{List, [], ◌∷◌, map}
use Rattle.std.specs.Prelude.{Some, None}
use lib.ListN.{length}
use borrow.Author.Tests.{le-ltb}
use Rattle.engine.specs.declared.Config.{Config}
use Rattle.octets.specs.Parts.{Bytes}
use Rattle.octets.specs.Compare.{same}
use Rattle.octets.proofs.Choices.{cases}
use Rattle.numbers.specs.declared.Mode.{Mode}
use Rattle.document.specs.Documents.{Key, Doc}
use Rattle.header.specs.Header.{header_of}
use Rattle.request.specs.Reading.{Whole, gate_of, frame_status, key_span, bytes_in}
use Rattle.request.proofs.Gated.{whole-frame}
use Rattle.decision.specs.Decide.{Effect, decide}
use Rattle.decode.specs.Decode.{request_of}
use Rattle.rows.specs.Row.{Row}
use Rattle.rows.specs.Table.{Table, table_of, table_at, clock_at, table_bytes}
use Rattle.engines.specs.Engines.{engine_of}
use Rattle.engines.specs.Claims.{GoodBy}
use Rattle.engines.proofs.EngineLaws.{engines-laws}
use Rattle.engines.proofs.Tables.{sound-good-by, good-sound-by, clock-good-by}
use Rattle.rows.specs.Good.{AllGood}
use Rattle.rows.specs.Find.{find_row}
use Rattle.octets.proofs.Options.{none-some}
use Rattle.merge.specs.Merge.{All, changed, effect_on, table_on, table_after, statuses_of}
use Rattle.merge.specs.Merge as abstract
use Rattle.merge.proofs.Demand3 as abstractly
use Rattle.serving.specs.Serve.{served_outcome, served_status, served, served_table, gate_all, decision_on, frame_effect, frame_change, frame_table}
use Rattle.serving.proofs.Formed.{zero-reaches}
use Rattle.serving.proofs.Change.{change-good}
use Rattle.promises.specs.Calls.{Call, served_by, table_served, bytes_after, call_outcomes, call_statuses}
use Rattle.promises.specs.Merge.{MergingCall, mode_at, doc_at, clocks, writes, Premises, Merged, Demand3}
use Rattle.promises.proofs.MergingCall.{asked, all_asked}

-- a table, as an engine's
abbrev viewed : (config : Config) → Table → abstract.State (engine_of config)
viewed config t = record { head = t.head; rows = t.rows }

-- a call that is served, and whose frame keeps the reader's rules
record Passes (c : Call) : Type 0 where
  bytes : Bytes c.received
  clock : c.clock < 2 ^ 32
  room : 1302 ≤ length c.reply
  whole : gate_of c.received ≡ Whole (header_of c.received)
  form : frame_status c.received (header_of c.received) ≡ 0

all_pass : (m : Mode) (v : ℕ) (cs : List Call) → All (MergingCall m v) cs → All Passes cs
all_pass m v [] p = tt
all_pass m v (c ∷ cs) p = (record { bytes = p.0.bytes; clock = p.0.clock; room = p.0.room; whole = p.0.whole; form = p.0.form }, all_pass m v cs p.1)

-- ---- one call
abbrev stepped : Config → Table → Call → Table
stepped config t c = frame_change config (table_at t c.clock) (clock_at t c.clock) c.received (header_of c.received)

abbrev stepped_all : Config → Table → List Call → Table
stepped_all config t [] = t
stepped_all config t (c ∷ cs) = stepped_all config (stepped config t c) cs

effect-same : (config : Config) (t : Table) (c : Call) → Passes c
    → frame_effect config (table_at t c.clock) (clock_at t c.clock) c.received (header_of c.received) ≡ effect_on (engine_of config) (viewed config t) (asked config.forcing c)
unfolding frame_effect decision_on effect_on decide request_of
effect-same config t c w = rw (zero-reaches c.received (header_of c.received) w.form)

step_same : (config : Config) (t : Table) (c : Call) → Passes c → viewed config (stepped config t c) ≡ table_on (engine_of config) (viewed config t) (asked config.forcing c)
unfolding table_on request_of
step_same config t c w = ap (changed (engine_of config) (viewed config t) (bytes_in c.received (key_span (header_of c.received)))) (effect-same config t c w)

gate-go : (config : Config) (t : Table) (c : Call) → GoodBy config t → Passes c → gate_all config (table_bytes t) (length c.reply) c.received ≡ Whole (header_of c.received)
unfolding gate_all
gate-go config t c g w = rw ((good-sound-by config t g).0, le-ltb (length c.reply) 1302 w.room) w.whole

status-same : (config : Config) (t : Table) (c : Call) → GoodBy config t → Passes c
    → served_status (served_by config (table_bytes t) c) ≡ (effect_on (engine_of config) (viewed config t) (asked config.forcing c)).status
unfolding served
status-same config t c g w = rw (gate-go config t c g w, (good-sound-by config t g).1) (ap (λ (x : Effect). x.status) (effect-same config t c w))

outcome-none : (config : Config) (t : Table) (c : Call) → GoodBy config t → Passes c → served_outcome (served_by config (table_bytes t) c) ≡ 0
unfolding served
outcome-none config t c g w = rw (gate-go config t c g w)

-- ---- a list of calls
record Lifted (config : Config) (t : Table) (cs : List Call) : Type 0 where
  good : GoodBy config (stepped_all config t cs)
  bytes : bytes_after config (table_bytes t) cs ≡ table_bytes (stepped_all config t cs)
  table : viewed config (stepped_all config t cs) ≡ table_after (engine_of config) (viewed config t) (map (asked config.forcing) cs)
  served : All (λ n. n ≡ 0) (call_outcomes config (table_bytes t) cs)
  statuses : call_statuses config (table_bytes t) cs ≡ statuses_of (engine_of config) (viewed config t) (map (asked config.forcing) cs)

table_same : (config : Config) (t : Table) (c : Call) → GoodBy config t → Passes c → table_served config (table_bytes t) c ≡ table_bytes (stepped config t c)
unfolding served_table frame_table
table_same config t c g w = rw (gate-go config t c g w) (ap (λ (x : Table). table_bytes (stepped config x c)) (good-sound-by config t g).1)

lifted : (config : Config) (t : Table) (cs : List Call) → GoodBy config t → All Passes cs → Lifted config t cs
lifted config t [] g w = record { good = g; bytes = refl; table = refl; served = tt; statuses = refl }
lifted config t (c ∷ cs) g w =
    let h = header_of c.received in
    let good = change-good config (table_at t c.clock) (clock_at t c.clock) c.received h (clock-good-by config t c.clock g w.0.clock) w.0.bytes
    (whole-frame c.received h w.0.whole).inside in
    let r = lifted config (stepped config t c) cs good w.1 in
    let e = table_same config t c g w.0 in
    let v = step_same config t c w.0 in
    record {
      good = r.good;
      bytes = ap (λ (x : List ℕ). bytes_after config x cs) e ∙ r.bytes;
      table = r.table ∙ ap (λ (x : abstract.State (engine_of config)). table_after (engine_of config) x (map (asked config.forcing) cs)) v;
      served = (outcome-none config t c g w.0, subst (λ (x : List ℕ). All (λ n. n ≡ 0) (call_outcomes config x cs)) (sym e) r.served);
      statuses =
          ap (λ (x : List ℕ). served_status (served_by config (table_bytes t) c) ∷ call_statuses config x cs) e
          ∙ ap (λ (n : ℕ). n ∷ call_statuses config (table_bytes (stepped config t c)) cs) (status-same config t c g w.0)
          ∙ ap (λ (l : List ℕ). (effect_on (engine_of config) (viewed config t) (asked config.forcing c)).status ∷ l) r.statuses
          ∙ ap (λ (x : abstract.State (engine_of config)).
          (effect_on (engine_of config) (viewed config t) (asked config.forcing c)).status ∷ statuses_of (engine_of config) x (map (asked config.forcing) cs)) v;
    }

-- ---- the premises and the promises
module _ (forcing : Bool) where
  writes-same : (cs : List Call) → abstract.writes_of (map (asked forcing) cs) ≡ writes cs
  unfolding request_of
  writes-same [] = refl
  writes-same (c ∷ cs) = rw (writes-same cs)

  clocks-same : (cs : List Call) → abstract.clocks_of (map (asked forcing) cs) ≡ clocks cs
  clocks-same [] = refl
  clocks-same (c ∷ cs) = rw (clocks-same cs)

found_below : (mark : ℕ) (rows : List Row) (k : Key) (d : Doc) → AllGood mark rows → find_row rows k ≡ Some d → d.numbers.cas.0 ≤ mark
found_below mark [] k d g e = none-some d e
found_below mark (None ∷ rows) k d g e = found_below mark rows k d g e
found_below mark (Some x ∷ rows) k d g e =
    cases (same x.key k)
    (λ s. let e' = rw s at e in let z : x.doc ≡ d = cc in rw (← z) g.0.cas-most)
    (λ s. found_below mark rows k d g.1 (rw s at e))

module _ (config : Config) (b : List ℕ) (cs : List Call) (p : Premises config b cs) where
  good : GoodBy config (table_of b)
  good = (sound-good-by config b p.bytes p.undamaged).1

  back : table_bytes (table_of b) ≡ b
  back = (sound-good-by config b p.bytes p.undamaged).0

  premises : abstract.MergePremises (engine_of config) (viewed config (table_of b)) (map (asked config.forcing) cs)
  premises = record {
    sound = record { good = good.kept; below = λ k d e. found_below (table_of b).head.mark.0 (table_of b).rows k d good.good.rows e };
    active = p.active;
    merging = all_asked config.forcing (mode_at b) (table_of b).head.vbucket cs p.merging;
    room = rw (writes-same config.forcing cs) p.room;
    unique = λ k. rw (writes-same config.forcing cs) (p.unique k);
  }

  merged : abstract.MergedState (engine_of config) (viewed config (table_of b)) (map (asked config.forcing) cs)
  merged = abstractly.demand-3 (engine_of config) (engines-laws config) (viewed config (table_of b)) (map (asked config.forcing) cs) premises

  run : Lifted config (table_of b) cs
  run = lifted config (table_of b) cs good (all_pass (mode_at b) (table_of b).head.vbucket cs p.merging)

  ends : bytes_after config b cs ≡ table_bytes (stepped_all config (table_of b) cs)
  ends = ap (λ (x : List ℕ). bytes_after config x cs) (sym back) ∙ run.bytes

  after : viewed config (table_of (bytes_after config b cs)) ≡ table_after (engine_of config) (viewed config (table_of b)) (map (asked config.forcing) cs)
  after = ap (viewed config) (ap table_of ends ∙ (good-sound-by config (stepped_all config (table_of b) cs) run.good).1) ∙ run.table

  codes : call_statuses config b cs ≡ statuses_of (engine_of config) (viewed config (table_of b)) (map (asked config.forcing) cs)
  codes = ap (λ (x : List ℕ). call_statuses config x cs) (sym back) ∙ run.statuses

  docs : (k : Key) → doc_at (bytes_after config b cs) k ≡ abstract.doc_in (engine_of config) (table_after (engine_of config) (viewed config (table_of b)) (map (asked config.forcing) cs)) k
  docs k = ap (λ (x : abstract.State (engine_of config)). abstract.doc_in (engine_of config) x k) after

  on-bytes : Merged config b cs
  on-bytes = record {
    winner = λ k w.
        let (d, e, g) = merged.winner k (rw (writes-same config.forcing cs) w) in
        (d, docs k ∙ e, rw (writes-same config.forcing cs) at g);
    others = λ k w. docs k ∙ merged.others k (rw (writes-same config.forcing cs) w);
    served = subst (λ (x : List ℕ). All (λ n. n ≡ 0) (call_outcomes config x cs)) back run.served;
    statuses = codes ∙ rw (writes-same config.forcing cs) at merged.statuses;
    head = ap (λ (x : abstract.State (engine_of config)). x.head) after ∙ (rw (codes, ← writes-same config.forcing cs, ← clocks-same config.forcing cs) merged.head);
    mark-last = λ e. ap (λ (x : abstract.State (engine_of config)). x.head.mark.0) after ∙ (rw (writes-same config.forcing cs) at (merged.mark-last e));
    undamaged = rw ends (good-sound-by config (stepped_all config (table_of b) cs) run.good).0;
  }

-- demand 3 of document 01
pub merge-on-bytes : (config : Config) → Demand3 config
merge-on-bytes config b cs p = on-bytes config b cs p
