-- A step on a table that is not damaged, as what serving means: the answer, the reply and the table.
use Prim.Native.Nat.{ℕ, ◌+◌, ◌^◌, ◌≤◌, ◌<◌}
use mathlib.Core.Path.{◌≡◌, refl, sym, ap, subst, ◌∙◌}
use mathlib.Core.Bool.{Bool, true, false, ◌||◌}
use mathlib.Core.List.{List, [], append-nil}
use Rattle.std.specs.Prelude.{Option, Some, None}
use native.Mathlib.Omega.{arith}
use lib.Dec.{ltb}
use lib.ListN.{length}
use Rattle.engine.specs.declared.Config.{Config}
use Rattle.octets.specs.Parts.{Bytes, part, written}
use Rattle.octets.specs.BigEndian.{bytes_of}
use Rattle.octets.proofs.Choices.{cases}
use Rattle.octets.proofs.Options.{none-some}
use Rattle.octets.proofs.Lists.{part-most}
use Rattle.header.specs.declared.Header.{Header}
use Rattle.header.specs.Header.{header_bytes}
use Rattle.request.specs.Reading.{bytes_in, key_span, frame_status}
use Rattle.numbers.specs.Expiry.{later}
use Rattle.digits.specs.Decimal.{number_of}
use Rattle.document.specs.Documents.{Key, Doc, doc_value, joined}
use Rattle.document.specs.Stored.{entry_of, stored_of, has_row}
use Rattle.document.specs.declared.Head.{Head}
use Rattle.document.specs.Head.{at_clock}
use Rattle.document.specs.declared.Metadata.{Metadata}
use Rattle.document.specs.declared.Side.{Side}
use Rattle.document.specs.declared.Side.TheVariants.{Back}
use Rattle.commands.specs.declared.Context.{Context}
use Rattle.commands.specs.declared.Instruction.{Instruction}
use Rattle.effects.specs.declared.Source.{Source}
use Rattle.effects.specs.declared.Source.TheVariants.{Empty, Frame, Digits, Kept, Joined}
use Rattle.commands.specs.Writes.{is_mutation}
use Rattle.decision.specs.Decision.{Decision, decision}
use Rattle.decision.specs.Decide.{Effect, instruction_of, doc_from, bytes_from}
use Rattle.decision.proofs.Writing.{free-with-row, free-unread, stores-none}
use Rattle.decision.proofs.Stores.{joined_length}
use Rattle.decode.specs.Decode.{request_of, bare_value}
use Rattle.engine.specs.Engine.{store_row}
use Rattle.rows.specs.Table.{Table, table_of, table_at, clock_at, table_bytes, head_of, head_bytes}
use Rattle.rows.specs.Find.{find_row, free_rows}
use Rattle.rows.specs.Good.{EntryGood}
use Rattle.engines.specs.Engines.{engine_of}
use Rattle.engines.specs.Damage.{sound_by}
use Rattle.engines.specs.Claims.{GoodBy}
use Rattle.engines.proofs.Tables.{sound-good-by, head-put, clock-put, clock-good-by}
use Rattle.table.specs.declared.Lookup.{Lookup}
use Rattle.table.specs.Calls.{has_place, lookup_of, joined_by}
use Rattle.table.specs.Claims.{Finds}
use Rattle.table.proofs.Looking.{finds-sound, lookup_head}
use Rattle.table.proofs.Keeping.{stores-good, joins-good}
use Rattle.serving.specs.Serve.{Served, Done, reaches_decision, asked_of, decision_on, decision_at, frame_effect, effect_at, frame_table, frame_reply}
use Rattle.serving.specs.Serves.{ServesFrame}
use Rattle.serving.proofs.Change.{changing, unchanged, raised, raised-good}
use Rattle.effects.specs.declared.Reply.{Reply}
use Rattle.effects.specs.declared.Reply.TheVariants.{Bare, Found, Counted, Version as VersionReply, Keys}
use Rattle.reply.specs.Fitting.{bare_header}
use Rattle.reply.proofs.Replies.{fitting}
use Rattle.table.proofs.Listing.{lists-keys}
use Rattle.serving.specs.Reply.{reply_shows, reply_bytes}
use Rattle.reply.proofs.Frames.{bare-reply, refused-is, refused-reply, refused-length, key-short}
use Rattle.step.specs.Answer.{reply_as, reply_to}
use Rattle.step.specs.Step.{Stepped, refused_step, asked_step, frame_step}
use Rattle.step.proofs.Storing.{storing}
use Rattle.step.specs.Change.{stored_from, changed_with, changed_by}

-- ---- the kept clock
-- its bytes written alone leave the table at the call's clock
clock-written : (config : Config) (b : List ℕ) (clock n : ℕ) → Bytes b → sound_by config b ≡ true → n ≡ clock_at (table_of b) clock → written b 4 (bytes_of 4 n) ≡ table_bytes (table_at (table_of b) clock)
clock-written config b clock n y sb e = (λ i. written (sym (sound-good-by config b y sb).0 i) 4 (bytes_of 4 (e i))) ∙ clock-put (table_of b) clock

-- ---- a frame whose status the reader gives: its reply is a bare header
module _ (config : Config) (b s : List ℕ) (clock : ℕ) (h : Header) (g : reaches_decision s h ≡ false) where
  refused-table : frame_table config b clock s h ≡ table_bytes (table_at (table_of b) clock)
  unfolding frame_table frame_effect table_of
  refused-table =
      ap table_bytes (unchanged config (table_at (table_of b) clock) (clock_at (table_of b) clock) s h (rw (refused-is config b s clock h g)) (rw (refused-is config b s clock h g)))

  refused-status : (effect_at config b clock s h).status ≡ frame_status s h
  unfolding frame_effect
  refused-status = ap (λ (x : Decision). x.status) (refused-is config b s clock h g)

  -- what answering with a bare header and keeping the clock leaves
  refused-by : (st : ℕ) (hd : Head) (r : Served) (b' out out' : List ℕ) → Bytes b → sound_by config b ≡ true → st ≡ frame_status s h → hd ≡ head_of b
      → r ≡ Done st (24 + h.body) 24 → b' ≡ written b 4 (bytes_of 4 (later hd.clock clock))
      → out' ≡ written out 0 (header_bytes (bare_header h.opcode h.opaque st)) → ServesFrame config b clock s h out r b' out'
  unfolding table_of
  refused-by st hd r b' out out' y sb es eh er eb eo =
      let w : header_bytes (bare_header h.opcode h.opaque st) ≡ frame_reply config b clock s h =
      ap (λ (x : ℕ). header_bytes (bare_header h.opcode h.opaque x)) es
      ∙ sym (bare-reply h.opcode h.opaque (at_clock (head_of b) clock) (frame_status s h)) ∙ refused-reply config b s clock h g in
      record {
        answer = er ∙ (λ i. Done ((es ∙ sym refused-status) i) (24 + h.body) (sym (refused-length config b s clock h g) i));
        table = eb ∙ clock-written config b clock _ y sb (ap (λ (x : Head). later x.clock clock) eh) ∙ sym refused-table;
        reply = eo ∙ ap (written out 0) w;
      }

-- ---- a frame that is decided
-- a key with a row needs no free one, and a command that doesn't write doesn't look for one
abbrev pub seeing : Head → Option Metadata → Bool → ℕ → List ℕ → Context
seeing h s free clock old = record { head = h; row = s; free = free; clock = clock; number = number_of old; size = length old }

room-known : (h : Head) (s : Option Metadata) (free : Bool) (clock : ℕ) (n : List ℕ) (q : Instruction) → decision (seeing h s (has_row s || free) clock n) q ≡ decision (seeing h s free clock n) q
room-known h None free clock n q = refl
room-known h (Some m) free clock n q = free-with-row (seeing h (Some m) true clock n) q free refl

placed : (h : Head) (s : Option Metadata) (place free : Bool) (clock : ℕ) (n : List ℕ) (q : Instruction) (w : Bool) → w ≡ is_mutation q.command
    → (w ≡ true → place ≡ (has_row s || free)) → decision (seeing h s place clock n) q ≡ decision (seeing h s free clock n) q
placed h s place free clock n q true e p = ap (λ (x : Bool). decision (seeing h s x clock n) q) (p refl) ∙ room-known h s free clock n q
placed h s place free clock n q false e p = free-unread (seeing h s place clock n) q free (sym e)

no-doc : (st : Option Metadata) (value : List ℕ) → st ≡ None → doc_from st value ≡ None
no-doc st value e = rw e

-- ---- a value by its source
module _ (config : Config) (t : Table) (g : GoodBy config t) (key : Key) (m : Metadata) (mark : ℕ) (v : List ℕ) where
  abbrev stored : List ℕ
  stored = doc_value (find_row t.rows key)

  abbrev there : Lookup
  there = lookup_of config true (table_bytes t) key

  abbrev Fine : List ℕ → Type 0
  Fine value = EntryGood mark (entry_of key m value)

  join_is : (side : Side) (value : List ℕ) → Fine (joined side stored value)
      → joined_by config (table_bytes t) there key m side value ≡ storing config (table_bytes t) there key m (joined side stored value)
  join_is side value f = joins-good config t key m side value g (omega (arith, f.key-most, f.value-most, joined_length side stored value))

  -- stored where a lookup said, it is the value that the definitions name
  from-source : (source : Source) → Fine (bytes_from source v stored) → stored_from config (table_bytes t) there key m source v ≡ storing config (table_bytes t) there key m (bytes_from source v stored)
  from-source Empty f = refl
  from-source Frame f = refl
  from-source (Digits n) f = refl
  from-source Kept f =
      let e : joined Back stored [] ≡ stored = append-nil stored in
      join_is Back [] (subst Fine (sym e) f) ∙ ap (storing config (table_bytes t) there key m) e
  from-source (Joined side) f = join_is side v f

-- storing what a frame asks for, by the lookup of its key, is the engine's put
module _ (config : Config) (b s : List ℕ) (clock : ℕ) (h : Header) (y : Bytes b) (z : Bytes s) (small : clock < 2 ^ 32) (inside : 24 + h.body ≤ length s) (sb : sound_by config b ≡ true)
    (source : Source) (v : List ℕ) where
  abbrev t : Table
  t = table_of b

  -- the table at the call's clock, and that clock
  abbrev u : Table
  u = table_at t clock

  abbrev then : ℕ
  then = clock_at t clock

  abbrev asked : Key
  asked = bytes_in s (key_span h)

  abbrev effect : Effect
  effect = frame_effect config u then s h

  abbrev value : List ℕ
  value = bytes_from source v (doc_value (find_row t.rows asked))

  changed-is : (w : Bool) (store : Option Metadata) → doc_from store value ≡ effect.store → (w ≡ false → effect.store ≡ None)
      → changed_with config b (lookup_of config w b asked) asked store source effect.head v ≡ frame_table config b clock s h
  unfolding frame_table
  changed-is w None e none-if =
      let kept = (changing config u then s h (clock-good-by config t clock (sound-good-by config b y sb).1 small).good z inside).keeps (sym e) in
      clock-written config b clock effect.head.clock y sb (ap (λ (k : Head). k.clock) kept) ∙ sym (ap table_bytes (unchanged config u then s h (sym e) kept))
  changed-is w (Some m) e none-if =
      let good = sound-good-by config b y sb in
      let later-good = clock-good-by config t clock good.1 small in
      let d : Doc = record { tomb = m.tomb; value = value; numbers = m.numbers } in
      let q = (changing config u then s h later-good.good z inside).stores d (sym e) in
      let on : w ≡ true = cases w (λ p. p) (λ p. none-some d (sym (none-if p) ∙ sym e)) in
      let top = raised config u then s h later-good d q in
      let same = lookup_head config t effect.head asked true good.1 (raised-good config u then s h later-good d q) in
      (λ j. stored_from config (written (sym good.0 j) 0 (head_bytes effect.head)) (lookup_of config (on j) (sym good.0 j) asked) asked m source v)
      ∙ (λ j. stored_from config (head-put t effect.head j) (sym same j) asked m source v)
      ∙ from-source config top (raised-good config u then s h later-good d q) asked m effect.head.mark.0 v source q.entry
      ∙ stores-good config top asked d (raised-good config u then s h later-good d q) q.entry q.room
      ∙ ap (λ (o : Option Doc). table_bytes (record { head = effect.head; rows = store_row (engine_of config) t.rows asked o })) e

-- the key of a frame that goes on, and the value stored for it
shown-parts : (config : Config) (b s : List ℕ) (h : Header) → Bytes b → sound_by config b ≡ true → reaches_decision s h ≡ true → (k : List ℕ) (w : Bool) (l : Lookup) (old : List ℕ)
    → k ≡ bytes_in s (key_span h) → l ≡ lookup_of config w b k → old ≡ part b l.at l.len
    → (length k ≤ 250) × ((length old ≤ 1024) × (old ≡ doc_value (find_row (table_of b).rows k)))
shown-parts config b s h y sb g k w l old ek el eo =
    let f = finds-sound config b k w y sb in
    let e = eo ∙ ap (λ (x : Lookup). part b x.at x.len) el in (
      omega (arith, ap length ek, key-short s h g),
      (omega (arith, ap length e, part-most b (lookup_of config w b k).at (lookup_of config w b k).len, f.short), e ∙ f.value),
    )

-- a reply that fits, and of a listing the keys, is what the table shows
replied : (r : Reply) (config : Config) (b : List ℕ) (clock : ℕ) (h : Header) (d : Decision) (key old : List ℕ) (room : ℕ) → Bytes b → sound_by config b ≡ true → 1302 ≤ room
    → (length key ≤ 250) × ((length old ≤ 1024) × (old ≡ doc_value (find_row (table_of b).rows key)))
    → reply_as r config room b clock h d key old ≡ reply_bytes h.opcode h.opaque d key (reply_shows r (table_of b).rows clock key)
replied Bare config b clock h d key old room y sb l p = fitting room h.opcode h.opaque d key old l p.0 p.1.0 ∙ ap (reply_bytes h.opcode h.opaque d key) p.1.1
replied (Found flags keyed) config b clock h d key old room y sb l p = fitting room h.opcode h.opaque d key old l p.0 p.1.0 ∙ ap (reply_bytes h.opcode h.opaque d key) p.1.1
replied (Counted n) config b clock h d key old room y sb l p = fitting room h.opcode h.opaque d key old l p.0 p.1.0 ∙ ap (reply_bytes h.opcode h.opaque d key) p.1.1
replied VersionReply config b clock h d key old room y sb l p = fitting room h.opcode h.opaque d key old l p.0 p.1.0 ∙ ap (reply_bytes h.opcode h.opaque d key) p.1.1
replied (Keys count) config b clock h d key old room y sb l p = ap (reply_bytes h.opcode h.opaque d key) (lists-keys config b clock key count room y sb l)

module _ (config : Config) (b s : List ℕ) (clock : ℕ) (h : Header) (y : Bytes b) (z : Bytes s) (small : clock < 2 ^ 32) (sb : sound_by config b ≡ true) (inside : 24 + h.body ≤ length s)
    (g : reaches_decision s h ≡ true) (k : List ℕ) (w : Bool) (l : Lookup) (old : List ℕ) (now : Head) (q : Instruction) (d : Decision)
    (ek : k ≡ bytes_in s (key_span h)) (ew : w ≡ is_mutation q.command) (el : l ≡ lookup_of config w b k) (eo : old ≡ part b l.at l.len) (eh : now ≡ at_clock (head_of b) clock)
    (eq : q ≡ instruction_of (request_of config.forcing s h)) (ed : d ≡ decision (seeing now l.stored (has_place l.place) now.clock old) q) where
  abbrev key : Key
  key = bytes_in s (key_span h)

  abbrev row : Option Doc
  row = find_row (table_of b).rows key

  abbrev free : Bool
  free = ltb 0 (free_rows (table_of b).rows)

  -- the head at the call's clock
  abbrev head : Head
  head = at_clock (head_of b) clock

  found : l ≡ lookup_of config w b key
  found = el ∙ ap (lookup_of config w b) ek

  finds : Finds config b (table_of b).rows key w
  finds = finds-sound config b key w y sb

  stored_is : l.stored ≡ stored_of row
  stored_is = ap (λ (x : Lookup). x.stored) found ∙ finds.stored

  old-is : old ≡ doc_value row
  old-is = eo ∙ ap (λ (x : Lookup). part b x.at x.len) found ∙ finds.value

  decided-is : d ≡ decision (seeing head (stored_of row) free head.clock (doc_value row)) q
  decided-is =
      ed ∙ (λ i. decision (seeing (eh i) (stored_is i) (has_place l.place) (eh i).clock (old-is i)) q)
      ∙ placed head (stored_of row) (has_place l.place) free head.clock (doc_value row) q w ew
      (λ e. ap (λ (x : Lookup). has_place x.place) found ∙ finds.room e)

  decision-is : d ≡ decision_at config b clock s h
  unfolding decision_on table_of
  decision-is = rw g (decided-is ∙ ap (decision (seeing head (stored_of row) free head.clock (doc_value row))) eq)

  status-is : d.status ≡ (effect_at config b clock s h).status
  unfolding frame_effect
  status-is = ap (λ (x : Decision). x.status) decision-is

  head-is : d.done.head ≡ (effect_at config b clock s h).head
  unfolding frame_effect
  head-is = ap (λ (x : Decision). x.done.head) decision-is

  store_is : (v : List ℕ) → v ≡ bare_value s h → doc_from d.done.store (bytes_from d.done.source v (doc_value row)) ≡ (effect_at config b clock s h).store
  unfolding frame_effect request_of
  store_is v ev = λ i. doc_from (decision-is i).done.store (bytes_from (decision-is i).done.source (ev i) (doc_value row))

  store-none : (v : List ℕ) → v ≡ bare_value s h → w ≡ false → (effect_at config b clock s h).store ≡ None
  store-none v ev e =
      sym (store_is v ev) ∙ no-doc d.done.store _ (ap (λ (x : Decision). x.done.store) decided-is
      ∙ stores-none (seeing head (stored_of row) free head.clock (doc_value row)) q (sym ew ∙ e))

  reply-is : (room : ℕ) → 1302 ≤ room → reply_to config room b now.clock h d k old ≡ frame_reply config b clock s h
  unfolding frame_reply table_of
  reply-is room roomy =
      replied d.done.reply config b now.clock h d k old room y sb roomy (shown-parts config b s h y sb g k w l old ek el eo)
      ∙ (λ i. reply_bytes h.opcode h.opaque (decision-is i) (ek i) (reply_shows (decision-is i).done.reply (table_of b).rows (eh i).clock (ek i)))

  -- what answering and storing by the decision leaves
  formed-by : (v out : List ℕ) → 1302 ≤ length out → v ≡ bare_value s h
      → let reply = reply_to config (length out) b now.clock h d k old in
      ServesFrame config b clock s h out (Done d.status (24 + h.body) (length reply)) (changed_by config b l k d.done v) (written out 0 reply)
  formed-by v out roomy ev =
      let e = reply-is (length out) roomy in
      record {
        answer = λ i. Done (status-is i) (24 + h.body) (length (e i));
        table = (λ i. changed_with config b (found i) (ek i) d.done.store d.done.source (head-is i) v)
            ∙ changed-is config b s clock h y z small inside sb d.done.source v w d.done.store (store_is v ev) (store-none v ev);
        reply = ap (written out 0) e;
      }

-- ---- a whole frame
module _ (config : Config) (b s : List ℕ) (clock : ℕ) (h : Header) (out : List ℕ) (y : Bytes b) (z : Bytes s) (small : clock < 2 ^ 32) (sb : sound_by config b ≡ true)
    (inside : 24 + h.body ≤ length s) (roomy : 1302 ≤ length out) where
  abbrev Framed : Stepped → Type 0
  Framed x = ServesFrame config b clock s h out x.answer x.table x.reply

  asked-serves : reaches_decision s h ≡ true → Framed (asked_step config b (head_of b) clock h (instruction_of (asked_of config s h)) (bytes_in s (key_span h)) (bare_value s h) out)
  unfolding asked_step
  asked-serves g = formed-by config b s clock h y z small sb inside g _ _ _ _ _ _ _ refl refl refl refl refl refl refl (bare_value s h) out roomy refl

  refused-serves : reaches_decision s h ≡ false → Framed (refused_step b (head_of b) clock h out (frame_status s h))
  refused-serves g = refused-by config b s clock h g (frame_status s h) (head_of b) _ _ out _ y sb refl refl refl refl refl

  pub frame-serves : Framed (frame_step config b (head_of b) clock s h out)
  unfolding frame_step
  frame-serves = cases (reaches_decision s h) (λ g. rw g (asked-serves g)) (λ g. rw g (refused-serves g))
