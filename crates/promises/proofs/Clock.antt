-- Order 2: the kept clock ends as the latest of those that raise it, and a document that was once expired to a frame or a purge stays expired.
use Prim.Native.Nat.{ℕ, ◌^◌, ◌≤◌, ◌<◌, max}
use native.Mathlib.Omega.{arith}
use lib.IntN.{pos, ◌-ℤ◌}
use mathlib.Core.Path.{◌≡◌, refl, sym, ap, subst, ◌∙◌}
use mathlib.Core.Bool.{Bool, true, false, cond}
use mathlib.Core.List.{List, [], ◌∷◌}
use mathlib.Core.Logic.{inl, inr}
use Rattle.std.specs.Prelude.{Option, Some, None}
use borrow.Author.Tests.{le-leb}
use Rattle.keys.specs.Keys.{side_of}
use Rattle.engine.specs.declared.Config.{Config}
use Rattle.engine.specs.declared.EngineKind.{EngineKind}
use Rattle.engine.specs.declared.EngineKind.TheVariants.{Plain, Ordered}
use Rattle.octets.specs.Parts.{pasted, written}
use Rattle.octets.specs.BigEndian.{be_from, be, bytes_of}
use Rattle.octets.specs.Compare.{zeros, same}
use Rattle.octets.proofs.Choices.{cases}
use Rattle.numbers.specs.Expiry.{seconds_left, expired, passes, absolute}
use Rattle.document.specs.Documents.{Key, Doc}
use Rattle.document.specs.Stored.{stored_of, live, gone, gone_doc}
use Rattle.shape.specs.Shapes.{commands, unbuilt, look_up, among, shape_of}
use Rattle.header.specs.Header.{header_of}
use Rattle.rules.specs.Rules.{form_ok, field_rules_ok, meta_size, judged, status, keeps_rules, forces, is_forced}
use Rattle.request.specs.Reading.{gate_of, extras_span, key_span, value_span, frame_status}
use Rattle.commands.specs.Rules.{rule_of, tests_of, first_status, first_failure}
use Rattle.effects.specs.Done.{done_of}
use Rattle.decision.specs.Decision.{decision}
use Rattle.decode.specs.Decode.{command_of, bare_value, request_of}
use Rattle.engine.specs.Engine.{after_purge}
use Rattle.listing.specs.Listing.{listed_keys}
use Rattle.listing.specs.Claims.{OneOf}
use Rattle.listing.proofs.Exact.{lists-exactly}
use Rattle.rows.specs.Row.{slot_of, size_bytes, short_bytes, long_bytes, slot_bytes, doc_of, key_of, row_of, slot_for, used_bytes, row_bytes}
use Rattle.rows.specs.Table.{Table, head_of, table_of, clock_at, head_bytes, table_bytes}
use Rattle.rows.specs.Find.{find_row}
use Rattle.rows.specs.RowRules.{size_ok, head_ok, used_ok, row_sound}
use Rattle.plain.specs.Damage.{sound}
use Rattle.ordered.specs.Damage.{sound_ordered}
use Rattle.engines.specs.Damage.{sound_by}
use Rattle.engines.specs.Claims.{GoodBy}
use Rattle.engines.proofs.EngineLaws.{engines-laws}
use Rattle.engines.proofs.Tables.{sound-good-by, good-sound-by}
use Rattle.engines.specs.Engines.{engine_of}
use Rattle.owning.specs.Owner.{Expired as ExpiredBy, read_of, read_status, purge_of, purged_bytes}
use Rattle.owning.proofs.Activating.{activate-damaged}
use Rattle.serving.specs.Serve.{gate_all, decision_on, frame_effect, frame_table, served, served_table}
use Rattle.serving.proofs.Formed.{no}
use Rattle.promises.specs.Merge.{doc_at}
use Rattle.promises.specs.Kept.{kept_at, later_at}
use Rattle.promises.specs.Expiry.{Expired, NotLive, key_in}
use Rattle.promises.specs.Listing.{docs_in}
use Rattle.promises.specs.Clock.{TableCall, Serve, Purge, Read, Activate, clock_of, table_called, memory_after, raises, AllGiven, clock_after, writes_key, Unwritten}
use Rattle.promises.specs.Clock.{KeepsLatest, ExpiredForGood, StaysExpired, ReadsAlone, SumsLater}
use Rattle.promises.proofs.Kept.{kept-clock, kept-good}
use Rattle.promises.proofs.Liveness.{is-expired, dead}
use Rattle.promises.proofs.Reading.{dead-read, read-tells}
use Rattle.promises.proofs.Dead.{dead-is-missing, dead-is-unstored}
use Rattle.promises.proofs.Steps.{Left, Steps, purged-doc, purged-bytes, purged-good, step}

-- ---- damaged memory: no call changes it, and none raises its clock
module _ (config : Config) (b : List ℕ) (damaged : sound_by config b ≡ false) where
  stays : (x : TableCall) → table_called config b x ≡ b
  unfolding served_table gate_all purged_bytes
  stays (Serve c) = rw damaged
  stays (Purge clock bound) = rw damaged
  stays (Read clock k) = refl
  stays Activate = (activate-damaged config b damaged).1

  raises-none : (x : TableCall) → raises config b x ≡ false
  unfolding served gate_all purge_of
  raises-none (Serve c) = rw damaged
  raises-none (Purge clock bound) = rw damaged
  raises-none (Read clock k) = refl
  raises-none Activate = refl

  keeps-damaged : (xs : List TableCall) → kept_at (memory_after config b xs) ≡ clock_after config (kept_at b) b xs
  keeps-damaged [] = refl
  keeps-damaged (x ∷ xs) =
      ap (λ (m : List ℕ). kept_at (memory_after config m xs)) (stays x) ∙ keeps-damaged xs
      ∙ (λ i. clock_after config (cond (sym (raises-none x) i) (max (kept_at b) (clock_of x)) (kept_at b)) (sym (stays x) i) xs)

-- ---- a good table
keeps-good : (config : Config) (t : Table) (xs : List TableCall) → GoodBy config t → AllGiven xs
    → kept_at (memory_after config (table_bytes t) xs) ≡ clock_after config (kept_at (table_bytes t)) (table_bytes t) xs
keeps-good config t [] g p = refl
keeps-good config t (x ∷ xs) g p =
    let next = step config t g x p.0 in
    let clock : kept_at (table_bytes next.table) ≡ cond (raises config (table_bytes t) x) (max (kept_at (table_bytes t)) (clock_of x)) (kept_at (table_bytes t)) =
    kept-good config next.table next.good ∙ next.kept
    ∙ ap (λ (n : ℕ). cond (raises config (table_bytes t) x) (max n (clock_of x)) n) (sym (kept-good config t g)) in
    ap (λ (m : List ℕ). kept_at (memory_after config m xs)) next.bytes ∙ keeps-good config next.table xs next.good p.1
    ∙ (λ i. clock_after config (clock i) (sym next.bytes i) xs)

pub keeps-latest : (config : Config) → KeepsLatest config
keeps-latest config b xs y p =
    cases (sound_by config b)
    (λ e.
    let (back, good) = sound-good-by config b y e in
    subst (λ (m : List ℕ). kept_at (memory_after config m xs) ≡ clock_after config (kept_at m) m xs) back (keeps-good config (table_of b) xs good p))
    (λ e. keeps-damaged config b e xs)

-- ---- an expired document
expired-later : (n m : ℕ) (d : Doc) → n ≤ m → Expired n d → Expired m d
expired-later n m d l e = record { document = e.document; ends = e.ends; past = omega (arith, e.past, l) }

left-again : (d : Doc) (o p : Option Doc) → Left (Some d) o → Left o p → Left (Some d) p
left-again d o p (inl a) (inl b) = inl (b ∙ a)
left-again d o p (inr a) (inl b) = inr (b ∙ a)
left-again d o p l (inr b) = inr b

-- a document that is expired at the kept clock, and whose row is as it was or freed
record Over (config : Config) (t : Table) (k : Key) (d : Doc) : Type 0 where
  good : GoodBy config t
  left : Left (Some d) (find_row t.rows k)
  expired : Expired t.head.clock d

grows : (r : Bool) (n c : ℕ) → n ≤ cond r (max n c) n
grows true n c = omega arith
grows false n c = omega arith

-- the same after a call that doesn't write its key
module _ (config : Config) (k : Key) (d : Doc) where
  next : (t : Table) (x : TableCall) → (s : Steps config t x) → writes_key config (table_bytes t) x k ≡ false → Left (Some d) (find_row t.rows k)
      → Expired s.table.head.clock d → Over config s.table k d
  next t x s f l e = record { good = s.good; left = left-again d _ _ l (s.docs k f); expired = e }

  stays-over : (t : Table) (xs : List TableCall) → Over config t k d → AllGiven xs → Unwritten config (table_bytes t) xs k
      → (u : Table) × ((memory_after config (table_bytes t) xs ≡ table_bytes u) × Over config u k d)
  stays-over t [] o p w = (t, (refl, o))
  stays-over t (x ∷ xs) o p w =
      let s = step config t o.good x p.0 in
      let clock = grows (raises config (table_bytes t) x) t.head.clock (clock_of x) in
      let past = expired-later t.head.clock s.table.head.clock d (rw s.kept clock) o.expired in
      let rest = subst (λ (m : List ℕ). Unwritten config m xs k) s.bytes w.1 in
      let (u, (e, v)) = stays-over s.table xs (next t x s w.0 o.left past) p.1 rest in
      (u, (ap (λ (m : List ℕ). memory_after config m xs) s.bytes ∙ e, v))

-- what that says of the memory
module _ (config : Config) (t : Table) (k : Key) (d : Doc) (o : Over config t k d) where
  abbrev b : List ℕ
  b = table_bytes t

  row : doc_at b k ≡ find_row t.rows k
  row = ap (λ (x : Table). find_row x.rows k) (good-sound-by config t o.good).1

  left : Left (Some d) (doc_at b k)
  left = subst (Left (Some d)) (sym row) o.left

  past : (clock : ℕ) → Expired (later_at b clock) d
  past clock = expired-later t.head.clock (later_at b clock) d (omega (arith, kept-good config t o.good)) o.expired

  not-live-by : (clock : ℕ) (x : Option Doc) → Left (Some d) x → NotLive (later_at b clock) x
  not-live-by clock x (inl e) = subst (NotLive (later_at b clock)) (sym e) (inr (past clock))
  not-live-by clock x (inr e) = subst (NotLive (later_at b clock)) (sym e) tt

  not_live : (clock : ℕ) → NotLive (later_at b clock) (doc_at b k)
  not_live clock = not-live-by clock (doc_at b k) left

  not-live-in : (clock : ℕ) (s : List ℕ) → key_in s ≡ k → NotLive (later_at b clock) (doc_at b (key_in s))
  not-live-in clock s e = subst (λ (j : Key). NotLive (later_at b clock) (doc_at b j)) (sym e) (not_live clock)

  undamaged : sound_by config b ≡ true
  undamaged = (good-sound-by config t o.good).0

  unread : (clock : ℕ) → read_status (read_of config b clock k) ≡ 0x01
  unread clock = dead-read config b clock k undamaged (not_live clock)

  told : (clock : ℕ) → doc_at b k ≡ Some d → read_of config b clock k ≡ ExpiredBy (pos d.numbers.expiry -ℤ pos (later_at b clock))
  told clock at = ((read-tells config b clock k undamaged).1 d at).past (past clock)

  unlisted : (clock : ℕ) (start : Key) (count : ℕ) → OneOf k (listed_keys (docs_in b) (later_at b clock) start count) → ⊥
  unlisted clock start count m =
      let keys : (engine_of config).Good (table_of b).rows = subst (λ (x : Table). (engine_of config).Good x.rows) (sym (good-sound-by config t o.good).1) o.good.kept in
      let l = (lists-exactly (docs_in b) (later_at b clock) start count ((engines-laws config).distinct-docs (table_of b).rows keys)).only k m in
      let there : doc_at b k ≡ Some l.doc = (engines-laws config).find-docs (table_of b).rows keys k ∙ l.found in
      no (sym (dead (later_at b clock) (doc_at b k) (not_live clock)) ∙ ap (λ (x : Option Doc). live (stored_of x) (later_at b clock)) there ∙ l.live)

  goes : (clock bound : ℕ) → d.numbers.cas.0 ≤ bound → gone_doc (clock_at t clock) bound d ≡ true
  unfolding gone_doc gone
  goes clock bound l =
      let e = expired-later t.head.clock (clock_at t clock) d (omega arith) o.expired in
      rw (e.document, is-expired d.numbers.expiry (clock_at t clock) e.ends e.past, le-leb d.numbers.cas.0 bound l)

  freed-by : (p : Doc → Bool) (x : Option Doc) → p d ≡ true → Left (Some d) x → after_purge p x ≡ None
  freed-by p x e (inl f) = ap (after_purge p) f ∙ rw e
  freed-by p x e (inr f) = ap (after_purge p) f

  freed : (clock bound : ℕ) → clock < 2 ^ 32 → d.numbers.cas.0 ≤ bound → doc_at (purged_bytes config b clock bound) k ≡ None
  freed clock bound c l =
      ap (λ (m : List ℕ). doc_at m k) (purged-bytes config t o.good clock bound c)
      ∙ ap (λ (x : Table). find_row x.rows k) (good-sound-by config _ (purged-good config t o.good clock bound c)).1
      ∙ purged-doc config t o.good clock bound c k
      ∙ freed-by (gone_doc (clock_at t clock) bound) (find_row t.rows k) (goes clock bound l) o.left

  for-good : ExpiredForGood config b k d
  for-good = record {
    left = left;
    expired = past;
    read = unread;
    freed = λ clock. (read-tells config b clock k undamaged).0;
    told = told;
    listed = unlisted;
    frame = λ clock s room r e n. (dead-is-missing config b clock s room r (not-live-in clock s e) n).0;
    joined = λ clock s room r e n. (dead-is-unstored config b clock s room r (not-live-in clock s e) n).0;
    purge = freed;
  }

pub stays-expired : (config : Config) → StaysExpired config
stays-expired config b x xs k d p e w =
    let undamaged : sound_by config b ≡ true = cases (sound_by config b) (λ t. t) (λ f. no (sym (raises-none config b f x) ∙ e.raised)) in
    let (back, good) = sound-good-by config b e.bytes undamaged in
    let t = table_of b in
    let s = step config t good x p.0 in
    let raised : raises config (table_bytes t) x ≡ true = ap (λ (m : List ℕ). raises config m x) back ∙ e.raised in
    let clock : s.table.head.clock ≡ later_at b (clock_of x) =
    s.kept ∙ ap (λ (r : Bool). cond r (max t.head.clock (clock_of x)) t.head.clock) raised ∙ ap (λ (n : ℕ). max n (clock_of x)) (kept-clock b) in
    let written = subst (λ (m : List ℕ). Unwritten config m (x ∷ xs) k) (sym back) w in
    let first = next config k d t x s written.0 (inl e.there) (subst (λ (n : ℕ). Expired n d) (sym clock) e.expired) in
    let rest = subst (λ (m : List ℕ). Unwritten config m xs k) s.bytes written.1 in
    let (u, (after, over)) = stays-over config k d s.table xs first p.1 rest in
    let all : memory_after config b (x ∷ xs) ≡ table_bytes u =
    ap (λ (m : List ℕ). memory_after config m (x ∷ xs)) (sym back) ∙ ap (λ (m : List ℕ). memory_after config m xs) s.bytes ∙ after in
    subst (λ (m : List ℕ). ExpiredForGood config m k d) (sym all) (for-good config u k d over)

-- ---- what is computed: reads alone, and the plain expiry sum
computed : (engine : EngineKind) (forcing : Bool) → ReadsAlone (record { engine = engine; forcing = forcing }) × SumsLater (record { engine = engine; forcing = forcing })
unfolding pasted written be_from be bytes_of zeros same seconds_left expired live gone gone_doc commands unbuilt look_up among shape_of header_of form_ok field_rules_ok meta_size
    judged status gate_of extras_span key_span value_span frame_status rule_of tests_of first_status first_failure decision done_of command_of bare_value request_of keeps_rules forces is_forced
    slot_of size_bytes short_bytes long_bytes slot_bytes doc_of key_of row_of slot_for used_bytes row_bytes head_of table_of head_bytes table_bytes size_ok head_ok
    used_ok row_sound sound sound_ordered sound_by side_of read_of purged_bytes gate_all decision_on frame_effect frame_table served served_table absolute passes
computed Plain forcing = (
  record { missed = refl; shown-again = refl; after_frame = refl; after-purge = refl },
  record { stored = refl; kept = refl; spent = refl; never = refl },
)
computed Ordered forcing = (
  record { missed = refl; shown-again = refl; after_frame = refl; after-purge = refl },
  record { stored = refl; kept = refl; spent = refl; never = refl },
)

pub reads-alone : (config : Config) → ReadsAlone config
reads-alone config = (computed config.engine config.forcing).0

pub sums-later : (config : Config) → SumsLater config
sums-later config = (computed config.engine config.forcing).1
