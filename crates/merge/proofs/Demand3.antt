-- Demand 3: a whole list of with-meta calls, on any engine that meets the laws.
use Prim.Native.Nat.{ℕ}
use mathlib.Core.Path.{◌≡◌, refl, sym, ◌∙◌}
use mathlib.Core.Bool.{true, false, cond, ◌||◌}
use mathlib.Core.List.{List, [], ◌∷◌}
use Rattle.std.specs.Prelude.{Some}
use lib.Dec.{ltb}
use borrow.Author.Tests.{lt-ltb}
use Rattle.octets.specs.Compare.{same}
use Rattle.octets.proofs.Choices.{cases}
use Rattle.numbers.specs.declared.Mode.{Mode}
use Rattle.numbers.specs.Expiry.{later}
use Rattle.document.specs.Head.{marked, clocked, at_clock}
use Rattle.document.specs.Documents.{Key, Doc, Entry}
use Rattle.commands.specs.declared.Meta.{Meta}
use Rattle.engine.specs.Engine.{Engine, Laws, Room}
use Rattle.document.specs.Stored.{stored_of, has_row}
use Rattle.octets.proofs.Options.{options}
use Rattle.decision.specs.Merging.{RequestAt, MergingRequest, meta, carried_doc, write_of}
use Rattle.decision.proofs.MergingLaws.{merging-decided}
use Rattle.merge.specs.Writes.{Greatest, for, is_written, latest}
use Rattle.merge.specs.Merge.{State, doc_in, effect_on, table_on, table_after, statuses_of, clocks_of, writes_of, candidates_on, All, mode, MergePremises, MergedState, MergeTheorem}
use Rattle.merge.proofs.Greatest.{clash, wins, best, best-greatest}
use Rattle.merge.proofs.Run.{written_all, raised_all, statuses, Ready, room-one, ready-rest, ready-end, find-all, statuses-verdicts, mark-stored, mark-last}

for_some : (k : Key) (ws : List Entry) → is_written k ws ≡ true → (d : Doc) × (rest : List Doc) × (for k ws ≡ d ∷ rest)
for_some k [] h = clash refl (sym h)
for_some k (w ∷ ws) h = cases (same w.key k) (λ s. (w.doc, for k ws, rw s)) (λ s. rw s (for_some k ws (rw s at h)))

for-none : (k : Key) (ws : List Entry) → is_written k ws ≡ false → for k ws ≡ []
for-none k [] h = refl
for-none k (w ∷ ws) h = cases (same w.key k) (λ s. clash refl (rw s at h)) (λ s. rw s (for-none k ws (rw s at h)))

module _ (E : Engine) (L : Laws E) where
  -- the table after merging writes at these clocks
  abbrev after : State E → List ℕ → List Entry → State E
  after t ns ws = record {
    head = marked (clocked t.head (latest t.head.clock ns)) (raised_all E (mode E t) t.head.mark.0 t.rows ws);
    rows = written_all E (mode E t) t.rows ws;
  }

  roomy : (r : E.Rows) (k : Key) → Room E r k → (has_row (stored_of (E.find r k)) || ltb 0 (E.free r)) ≡ true
  roomy r k h = options (E.find r k) (λ n. rw (n, lt-ltb 0 (E.free r) (h n))) (λ e s. rw s)

  -- a merging request is one at every clock
  at-any-clock : (m : Mode) (v : ℕ) (w : Meta) (c : RequestAt) (clock : ℕ) → MergingRequest m v w c → MergingRequest m v w (record { clock = clock; request = c.request })
  at-any-clock m v w c clock p = record {
    with-meta = p.with-meta;
    supported = p.supported;
    kind = p.kind;
    mode = p.mode;
    short = p.short;
    here = p.here;
    header-cas = p.header-cas;
    force = p.force;
    regenerate = p.regenerate;
    skip = p.skip;
  }

  -- one call is one merging write
  on_call : (t : State E) (c : RequestAt) → t.head.state ≡ 1 → MergingRequest (mode E t) t.head.vbucket (meta c) c → Room E t.rows c.request.key
      → ((effect_on E t c).status ≡ cond (wins (mode E t) (doc_in E t c.request.key) (carried_doc c)) 0 0x02) × (table_on E t c ≡ after t (c.clock ∷ []) (write_of c ∷ []))
  unfolding effect_on table_on
  on_call t c active p room =
      let now : RequestAt = record { clock = later t.head.clock c.clock; request = c.request } in
      rw (merging-decided (at_clock t.head c.clock) (doc_in E t c.request.key) (ltb 0 (E.free t.rows)) (meta c) now active (at-any-clock _ _ _ c _ p)
      (roomy t.rows c.request.key room))
      (cases (wins (mode E t) (doc_in E t c.request.key) (carried_doc c)) (λ a. rw a (refl, refl)) (λ a. rw a (refl, refl)))

  on-calls : (t : State E) (cs : List RequestAt) → Ready E t.head.mark.0 t.rows (writes_of cs) → t.head.state ≡ 1
      → All (λ c. MergingRequest (mode E t) t.head.vbucket (meta c) c) cs
      → (table_after E t cs ≡ after t (clocks_of cs) (writes_of cs)) × (statuses_of E t cs ≡ statuses E (mode E t) t.rows (writes_of cs))
  on-calls t [] h active p = (refl, refl)
  on-calls t (c ∷ cs) h active p =
      let e = on_call t c active p.0 (room-one E L (mode E t) t.head.mark.0 t.rows (write_of c) (writes_of cs) h) in
      let ih = on-calls (after t (c.clock ∷ []) (write_of c ∷ [])) cs (ready-rest E L (mode E t) t.head.mark.0 t.rows (write_of c) (writes_of cs) h) active p.1 in
      (rw e.1 ih.0, rw (e.0, e.1, ih.1))

  module _ (t : State E) (cs : List RequestAt) (p : MergePremises E t cs) where
    ready : Ready E t.head.mark.0 t.rows (writes_of cs)
    ready = record { good = p.sound.good; below = p.sound.below; room = p.room }

    run : (table_after E t cs ≡ after t (clocks_of cs) (writes_of cs)) × (statuses_of E t cs ≡ statuses E (mode E t) t.rows (writes_of cs))
    run = on-calls t cs ready p.active p.merging

    ends : (k : Key) → doc_in E (table_after E t cs) k ≡ best (mode E t) (doc_in E t k) (for k (writes_of cs))
    ends k = rw run.0 (find-all E L (mode E t) t.head.mark.0 t.rows (writes_of cs) ready k)

    winner : (k : Key) → is_written k (writes_of cs) ≡ true → (d : Doc) × (doc_in E (table_after E t cs) k ≡ Some d) × Greatest (mode E t) d (candidates_on E t cs k)
    winner k w =
        let (d, rest, e) = for_some k (writes_of cs) w in
        rw (ends k, e) (best-greatest (mode E t) (doc_in E t k) d rest (rw e at (p.unique k)))

    merged : MergedState E t cs
    merged = record {
      winner = winner;
      others = λ k h. ends k ∙ rw (for-none k (writes_of cs) h);
      statuses = run.1 ∙ statuses-verdicts E L (mode E t) t.head.mark.0 (doc_in E t) [] t.rows (writes_of cs) ready (λ k. refl);
      head = rw (run.0, run.1, mark-stored E L (mode E t) t.head.mark.0 t.rows (writes_of cs));
      mark-last = λ e. rw (run.0, e) (mark-last E L t.head.mark.0 t.rows (writes_of cs) ready);
      sound = rw run.0 (let end = ready-end E L (mode E t) t.head.mark.0 t.rows (writes_of cs) ready in record { good = end.good; below = end.below });
    }

pub demand-3 : MergeTheorem
demand-3 E L t cs p = merged E L t cs p
