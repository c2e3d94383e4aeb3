-- What a whole frame stores in a good table keeps 01's rules of a row, so that the table is good again.
use native.Mathlib.Omega.{arith}
use Prim.Native.Nat.{ℕ, ◌+◌, ◌^◌, ◌≤◌, ◌<◌}
use mathlib.Core.Path.{◌≡◌, sym, ap, ◌∙◌, subst}
use mathlib.Core.Bool.{true, false}
use mathlib.Core.List.{List}
use Rattle.std.specs.Prelude.{Option, Some, None}
use lib.ListN.{length}
use lib.Dec.{ltb}
use borrow.Author.Tests.{ltb-true}
use Rattle.octets.specs.Parts.{Bytes}
use Rattle.octets.proofs.Choices.{cases}
use Rattle.octets.proofs.Options.{options, none-some}
use Rattle.octets.proofs.Lists.{part_length}
use Rattle.header.specs.declared.Header.{Header}
use Rattle.rules.proofs.RuleLaws.{key-most}
use Rattle.shape.specs.Shapes.{shape_of}
use Rattle.request.specs.Reading.{bytes_in, extras_span, key_span, value_span}
use Rattle.document.specs.Documents.{Key, Doc}
use Rattle.document.specs.declared.Head.{Head}
use Rattle.document.specs.Head.{marked}
use Rattle.decision.specs.Decide.{Effect, decide}
use Rattle.decision.specs.Claims.{StoredSound}
use Rattle.decision.proofs.Stores.{stores-with-room, stores-sound}
use Rattle.decode.specs.Decode.{request_of}
use Rattle.engine.specs.declared.Config.{Config}
use Rattle.engine.specs.Engine.{store_row}
use Rattle.rows.specs.Table.{Table}
use Rattle.rows.specs.Find.{find_row, free_rows}
use Rattle.rows.specs.Good.{EntryGood}
use Rattle.plain.specs.Claims.{Good}
use Rattle.engines.specs.Engines.{engine_of}
use Rattle.engines.specs.Claims.{GoodBy}
use Rattle.engines.proofs.Tables.{put-good-by, head-good-by}
use Rattle.serving.specs.Serve.{reaches_decision, decision_on, frame_effect, frame_change}
use Rattle.serving.proofs.Formed.{form, command-right}
use Rattle.serving.proofs.Kept.{decide-keeps, fits-found, short-found}

module _ (config : Config) (t : Table) (clock : ℕ) (s : List ℕ) (h : Header) where
  abbrev key : Key
  key = bytes_in s (key_span h)

  abbrev effect : Effect
  effect = frame_effect config t clock s h

  abbrev mark : ℕ
  mark = effect.head.mark.0

  -- a document that a frame stores
  pub record Storing (d : Doc) : Type 0 where
    pub entry : EntryGood mark (record { key = key; doc = d })
    pub head : effect.head ≡ marked t.head mark
    pub grows : t.head.mark.0 ≤ mark
    pub fits : mark < 2 ^ 64
    pub room : find_row t.rows key ≡ None → 0 < free_rows t.rows

  -- a frame stores nothing and keeps the head, or what it stores is as above
  pub record Changing : Type 0 where
    pub keeps : effect.store ≡ None → effect.head ≡ t.head
    pub stores : (d : Doc) → effect.store ≡ Some d → Storing d

  refused : reaches_decision s h ≡ false → Changing
  unfolding frame_effect decision_on
  refused f = record { keeps = λ e. rw f; stores = λ d e. none-some d (rw f at e) }

  module _ (g : Good t) (y : Bytes s) (whole : 24 + h.body ≤ length s) (o : reaches_decision s h ≡ true) where
    abbrev decided : Effect
    decided = decide t.head (find_row t.rows key) (ltb 0 (free_rows t.rows)) clock (request_of config.forcing s h)

    is-decided : decided ≡ effect
    unfolding frame_effect decision_on decide
    is-decided = rw o

    sound : StoredSound t.head (find_row t.rows key) (ltb 0 (free_rows t.rows)) clock (request_of config.forcing s h)
    sound =
        stores-sound t.head (find_row t.rows key) (ltb 0 (free_rows t.rows)) clock (request_of config.forcing s h)
        g.mark (command-right config.forcing s y h o).0 (fits-found t.head.mark.0 t.rows key g.mark g.rows) (short-found t.head.mark.0 t.rows key g.rows)

    key-length : length key ≡ h.keylen
    unfolding key_span
    key-length = part_length s (24 + h.extlen) h.keylen (omega (arith, (form config.forcing s y h o).inside))

    most : h.keylen ≤ 250
    most = key-most (shape_of h.opcode) h (bytes_in s (extras_span h)) (bytes_in s (value_span h)) o

    abbrev Kept : Type 0
    Kept = (decided.store ≡ None → decided.head ≡ t.head) × ((d : Doc) → decided.store ≡ Some d → 1 ≤ h.keylen)

    kept : Kept
    kept = decide-keeps t.head (find_row t.rows key) (ltb 0 (free_rows t.rows)) clock (request_of config.forcing s h) h.keylen (command-right config.forcing s y h o).1

    -- the same, of the decision
    abbrev At : Effect → Type 0
    At x =
        (x.store ≡ None → x.head ≡ t.head)
        × ((d : Doc) → x.store ≡ Some d
        → (EntryGood x.head.mark.0 (record { key = key; doc = d }))
        × ((x.head ≡ marked t.head x.head.mark.0)
        × ((t.head.mark.0 ≤ x.head.mark.0)
        × ((x.head.mark.0 < 2 ^ 64) × (find_row t.rows key ≡ None → 0 < free_rows t.rows)))))

    at-decided : At decided
    at-decided = (
      kept.0,
      λ d e.
          let q = sound.doc d e in
          let fine : EntryGood decided.head.mark.0 (record { key = key; doc = d }) = record {
            key-least = omega (arith, key-length, kept.1 d e);
            key-most = omega (arith, key-length, most);
            value-most = q.short;
            bare = q.bare;
            flags = q.fits.flags;
            expiry = q.fits.expiry;
            revision = q.fits.revision;
            cas-least = q.one;
            cas-most = q.marked;
          } in
          let free : find_row t.rows key ≡ None → 0 < free_rows t.rows = λ n.
          ltb-true 0 (free_rows t.rows) (stores-with-room t.head (ltb 0 (free_rows t.rows)) clock (request_of config.forcing s h) d
          (ap (λ (x : Option Doc). (decide t.head x (ltb 0 (free_rows t.rows)) clock (request_of config.forcing s h)).store) (sym n) ∙ e)) in
          (fine, (sound.head, (sound.grows, (sound.fits, free)))),
    )

    went : Changing
    went =
        let p : At effect = subst At is-decided at-decided in
        record {
          keeps = p.0;
          stores = λ d e. let q = p.1 d e in record { entry = q.0; head = q.1.0; grows = q.1.1.0; fits = q.1.1.1.0; room = q.1.1.1.1 };
        }

pub changing : (config : Config) (t : Table) (clock : ℕ) (s : List ℕ) (h : Header) → Good t → Bytes s → 24 + h.body ≤ length s → Changing config t clock s h
changing config t clock s h g y w = cases (reaches_decision s h) (went config t clock s h g y w) (refused config t clock s h)

-- "A non-zero status changes no table byte"
pub unchanged : (config : Config) (t : Table) (clock : ℕ) (s : List ℕ) (h : Header) → (frame_effect config t clock s h).store ≡ None → (frame_effect config t clock s h).head ≡ t.head
    → frame_change config t clock s h ≡ t
unchanged config t clock s h e f = λ i. record { head = f i; rows = store_row (engine_of config) t.rows (bytes_in s (key_span h)) (e i) }

-- what a frame stores is put in the table with its new head
module _ (config : Config) (t : Table) (clock : ℕ) (s : List ℕ) (h : Header) (g : GoodBy config t) (d : Doc) (q : Storing config t clock s h d) where
  abbrev pub raised : Table
  raised = record { head = (frame_effect config t clock s h).head; rows = t.rows }

  pub raised-good : GoodBy config raised
  raised-good =
      subst (λ (x : Head). GoodBy config (record { head = x; rows = t.rows })) (sym q.head)
      (head-good-by config t (frame_effect config t clock s h).head.mark.0 g q.grows q.fits)

  put-good : GoodBy config (record { head = raised.head; rows = (engine_of config).put t.rows (bytes_in s (key_span h)) d })
  put-good = put-good-by config raised (bytes_in s (key_span h)) d raised-good q.entry q.room

-- a whole frame keeps a table good
pub change-good : (config : Config) (t : Table) (clock : ℕ) (s : List ℕ) (h : Header) → GoodBy config t → Bytes s → 24 + h.body ≤ length s
    → GoodBy config (frame_change config t clock s h)
change-good config t clock s h g y w =
    let c = changing config t clock s h g.good y w in
    let x = frame_effect config t clock s h in
    options x.store
    (λ e. subst (GoodBy config) (sym (unchanged config t clock s h e (c.keeps e))) g)
    (λ d e.
    subst (λ (o : Option Doc). GoodBy config (record { head = x.head; rows = store_row (engine_of config) t.rows (bytes_in s (key_span h)) o })) (sym e)
    (put-good config t clock s h g d (c.stores d e)))
