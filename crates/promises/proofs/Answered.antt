-- What frames with status 0 are answered: a Get, order 4's commands, and the CAS in the reply to every write. specs/Replies.antt.
use native.Mathlib.Omega.{arith}
use Prim.Native.Nat.{ℕ, ◌+◌, ◌≤◌}
use mathlib.Core.Path.{◌≡◌, refl, sym, ap, ◌∙◌}
use mathlib.Core.Bool.{Bool, true, false, cond, ◌&&◌}
use mathlib.Core.List.{List, [], ◌∷◌, ◌++◌, append_assoc}
use Rattle.std.specs.Prelude.{Option, Some}
use lib.ListN.{length, drop}
use lib.Dec.{eqb}
use borrow.Author.Tests.{eq-eqb}
use Rattle.engine.specs.declared.Config.{Config}
use Rattle.octets.specs.Parts.{Bytes, part, written}
use Rattle.octets.specs.BigEndian.{num, bytes_of}
use Rattle.octets.proofs.Choices.{cases}
use Rattle.octets.proofs.Numbers.{num-back}
use Rattle.numbers.specs.Growth.{cas_after}
use Rattle.document.specs.declared.Metadata.{Metadata}
use Rattle.document.specs.declared.Side.{Side}
use Rattle.document.specs.Documents.{Key, Doc, doc_value}
use Rattle.document.specs.Stored.{live, stored_of, numbers_of}
use Rattle.shape.specs.Shapes.{among, shape_of}
use Rattle.header.specs.declared.Header.{Header}
use Rattle.header.specs.Header.{header_of, header_bytes, front_bytes, middle_bytes, back_bytes}
use Rattle.commands.specs.declared.Command.{Command}
use Rattle.commands.specs.declared.Command.TheVariants.{Get, Write, Delete, Count, Noop, Version, WithMeta, GetKeys, Join, Touch}
use Rattle.commands.specs.declared.Context.{Context}
use Rattle.commands.specs.declared.Instruction.{Instruction}
use Rattle.commands.specs.Rules.{rule_of}
use Rattle.commands.specs.Writes.{is_mutation}
use Rattle.effects.specs.declared.Reply.{Reply}
use Rattle.effects.specs.declared.Reply.TheVariants.{Bare, Found}
use Rattle.effects.specs.declared.Done.{Done as Effects}
use Rattle.effects.specs.Done.{done_of, nothing, join_done}
use Rattle.decision.specs.Decision.{Decision, decision}
use Rattle.decision.specs.Decide.{doc_from, bytes_from, reply_extras, reply_key, reply_value}
use Rattle.decode.specs.Decode.{plain_of, counter_of, touch_of, meta_command, command_of, request_of}
use Rattle.rows.specs.Row.{Row}
use Rattle.rows.specs.Find.{find_row}
use Rattle.rows.specs.Table.{table_of, clock_at}
use Rattle.serving.specs.Reply.{body_of, reply_shows, reply_header, reply_bytes}
use Rattle.serving.specs.Serve.{Done, decision_at, frame_reply, answer_by, reply_by, served, served_reply, served_length}
use Rattle.serving.proofs.Formed.{no, by_cond}
use Rattle.serving.proofs.Gated.{was-open}
use Rattle.promises.specs.Merge.{doc_at}
use Rattle.promises.specs.Expiry.{opcode, extras_in, key_in, gets, touches, joins, Answers}
use Rattle.promises.specs.Replies.{good_reply, touch_reply, TouchReplies, join_reply, JoinReplies, writers, WriteReplies, get_reply, GetReplies}
use Rattle.promises.proofs.Asks.{at-opcode, all_pass, ask, tested, joining, showing}
use Rattle.promises.proofs.Liveness.{and-false, listed, answered, was-whole}
use Rattle.promises.proofs.Dead.{seen, command, instruction, command-asked}
use Rattle.promises.proofs.Counting.{does, done_at}
use Rattle.promises.proofs.Replies.{put, reply-fits}
use Rattle.promises.proofs.Listing.{reached}

-- ---- a frame with status 0
-- its decision, by what its command does; one whose quiet form is silent on 0 is silent in it
zero-decision : (c : Context) (i : Instruction) → (decision c i).status ≡ 0
    → decision c i ≡ record { status = 0; silent = i.quiet && eqb 0 (rule_of c i.command).silent_on; done = done_of c i.command }
unfolding decision
zero-decision c i zero =
    let done = ap (λ (t : Bool). cond t (done_of c i.command) (nothing c.head Bare (record { 0 = 0 }))) (eq-eqb _ 0 zero) in
    λ j. record { status = zero j; silent = i.quiet && eqb (zero j) (rule_of c i.command).silent_on; done = done j }

-- a reply's bytes: the header has the received opcode and opaque
good-bytes : (s : List ℕ) (done : Effects) (key shown : List ℕ) → Bytes s → 24 ≤ length s
    → reply_bytes (header_of s).opcode (header_of s).opaque (record { status = 0; silent = false; done = done }) key shown
    ≡ good_reply s (reply_extras done.reply) (reply_key done.reply key) (reply_value done.reply shown) done.cas.0
unfolding reply_bytes reply_header header_bytes front_bytes middle_bytes back_bytes header_of bytes_of
good-bytes s done key shown y l =
    let r = done.reply in
    let body = body_of r key shown in
    let op = num-back s 1 1 y (omega arith) in
    let opaque = num-back s 12 4 y (omega arith) in
    λ i. ((0x81 ∷ op i ++ bytes_of 2 (length (reply_key r key)))
    ++ ((bytes_of 1 (length (reply_extras r)) ++ (0 ∷ 0 ∷ 0 ∷ [])) ++ (bytes_of 4 (length body) ++ (opaque i ++ bytes_of 8 done.cas.0))))
    ++ body

by-silence : (s : List ℕ) (done : Effects) (key : List ℕ) (quiet : Bool) (shown : List ℕ) → Bytes s → 24 ≤ length s
    → reply_bytes (header_of s).opcode (header_of s).opaque (record { status = 0; silent = quiet; done = done }) key shown
    ≡ cond quiet [] (good_reply s (reply_extras done.reply) (reply_key done.reply key) (reply_value done.reply shown) done.cas.0)
unfolding reply_bytes
by-silence s done key true shown y l = refl
by-silence s done key false shown y l = good-bytes s done key shown y l

module _ (config : Config) (b : List ℕ) (clock : ℕ) (s : List ℕ) where
  -- what its command does
  abbrev done : Effects
  done = done_of (seen config b clock s) (command config b clock s)

  abbrev silent : Bool
  silent = (instruction config b clock s).quiet && eqb 0 (rule_of (seen config b clock s) (command config b clock s)).silent_on

  -- the reply to it where it isn't silent
  abbrev said : Effects → List ℕ
  said x =
      good_reply s (reply_extras x.reply) (reply_key x.reply (key_in s))
      (reply_value x.reply (reply_shows x.reply (table_of b).rows (clock_at (table_of b) clock) (key_in s))) x.cas.0

  replied : Bytes s → 24 ≤ length s → (decision_at config b clock s (header_of s)).status ≡ 0 → frame_reply config b clock s (header_of s) ≡ cond silent [] (said done)
  unfolding frame_reply
  replied z l zero =
      let h = header_of s in
      let shows : Decision → List ℕ = λ x. reply_shows x.done.reply (table_of b).rows (clock_at (table_of b) clock) (key_in s) in
      let whole : Decision → List ℕ = λ x. reply_bytes h.opcode h.opaque x (key_in s) (shows x) in
      let r = reached config b clock s zero in
      ap whole (r ∙ zero-decision (seen config b clock s) (instruction config b clock s) (ap (λ (x : Decision). x.status) (sym r) ∙ zero))
      ∙ by-silence s done (key_in s) silent (shows (record { status = 0; silent = silent; done = done })) z l

  -- at the start of the reply area
  sent : (out : List ℕ) (len : ℕ) (reply : List ℕ) → Bytes b → Bytes s → served config b clock s (length out) ≡ Done 0 (24 + (header_of s).body) len → cond silent [] (said done) ≡ reply
      → (len ≡ length reply) × (served_reply config b clock s out ≡ reply ++ drop len out)
  unfolding served served_reply
  sent out len reply y z r e =
      let o = was-whole config b clock s (length out) 0 _ len r in
      let zero = listed config b clock s ∙ answered config b clock s (length out) 0 _ len r in
      let f = replied z (was-open config b s (length out) (header_of s) o).frame.long zero ∙ e in
      let size : len ≡ length reply = sym (ap served_length (ap (answer_by config b clock s) (sym o) ∙ r)) ∙ ap length f in
      let inside = (reply-fits config b clock s out 0 _ len y r).inside in (
        size,
        ap (reply_by config b clock s out) o ∙ ap (written out 0) f ∙ put out reply (omega (arith, size, inside)) ∙ ap (λ (k : ℕ). reply ++ drop k out) (sym size),
      )

-- ---- a command that writes stores a row, and answers with its CAS
record Stores (x : Effects) : Type 0 where
  row : Metadata
  stored : x.store ≡ Some row
  cas : x.cas.0 ≡ row.numbers.cas.0

done-stores : (c : Context) (x : Command) → is_mutation x ≡ true → Stores (done_of c x)
unfolding done_of
done-stores c (Get k) e = no e
done-stores c (Write p) e = record { row = _; stored = refl; cas = refl }
done-stores c Delete e = record { row = _; stored = refl; cas = refl }
done-stores c (Count k) e =
    by_cond Stores (live c.row c.clock) _ _ (λ t. record { row = _; stored = refl; cas = refl }) (λ t. record { row = _; stored = refl; cas = refl })
done-stores c Noop e = no e
done-stores c Version e = no e
done-stores c (WithMeta w) e = record { row = _; stored = refl; cas = refl }
done-stores c (GetKeys n) e = no e
done-stores c (Join side) e = record { row = _; stored = refl; cas = refl }
done-stores c (Touch t) e = record { row = _; stored = refl; cas = refl }

-- ---- the CAS in a reply's bytes
cas-at : (h : Header) (rest : List ℕ) → part (header_bytes h ++ rest) 16 8 ≡ bytes_of 8 h.cas.0
unfolding header_bytes front_bytes middle_bytes back_bytes bytes_of
cas-at h rest = refl

-- a reply that is sent
sent-cas : (op opaque : ℕ) (x : Decision) (key shown rest : List ℕ) → (length (reply_bytes op opaque x key shown) ≡ 0 → ⊥)
    → part (reply_bytes op opaque x key shown ++ rest) 16 8 ≡ bytes_of 8 x.done.cas.0
unfolding reply_bytes reply_header
sent-cas op opaque x key shown rest sent =
    let h = reply_header op opaque x key shown in
    let body = body_of x.done.reply key shown in
    cases x.silent
    (λ t. absurd (sent (rw t)))
    (λ t. rw t (ap (λ (l : List ℕ). part l 16 8) (append_assoc (header_bytes h) body rest) ∙ cas-at h (body ++ rest)))

module _ (config : Config) (b : List ℕ) (clock : ℕ) (s : List ℕ) (e : among (opcode s) writers ≡ true) where
  mutates : is_mutation (command config b clock s) ≡ true
  unfolding shape_of command_of plain_of counter_of touch_of meta_command
  mutates = ap is_mutation (command-asked config b clock s) ∙ tested (λ n. is_mutation (ask (seen config b clock s) (extras_in s) n)) (opcode s) writers refl e

  stores : Stores (done config b clock s)
  stores = done-stores (seen config b clock s) (command config b clock s) mutates

  -- what the key has then
  abbrev document : Doc
  document = record {
    tomb = stores.row.tomb;
    value = bytes_from (done config b clock s).source (request_of config.forcing s (header_of s)).value (doc_value (doc_at b (key_in s)));
    numbers = stores.row.numbers;
  }

  stored : does config b clock s ≡ Some document
  stored = ap (λ (x : Option Metadata). doc_from x document.value) stores.stored

  cas-is : (decision_at config b clock s (header_of s)).status ≡ 0 → (decision_at config b clock s (header_of s)).done.cas.0 ≡ document.numbers.cas.0
  cas-is zero =
      let r = reached config b clock s zero in
      let decided = r ∙ zero-decision (seen config b clock s) (instruction config b clock s) (ap (λ (x : Decision). x.status) (sym r) ∙ zero) in
      ap (λ (x : Decision). x.done.cas.0) decided ∙ stores.cas

pub write-replies : (config : Config) → WriteReplies config
unfolding served served_reply frame_reply
write-replies config b clock s out len y z small e r sent =
    let a : Answers config b clock s (length out) 0 = (len, r) in
    let h = header_of s in
    let x = decision_at config b clock s h in
    let shown = reply_shows x.done.reply (table_of b).rows (clock_at (table_of b) clock) (key_in s) in
    let reply = reply_bytes h.opcode h.opaque x (key_in s) shown in
    let o = was-whole config b clock s (length out) 0 _ len r in
    let zero = listed config b clock s ∙ answered config b clock s (length out) 0 _ len r in
    let size : len ≡ length reply = sym (ap served_length (ap (answer_by config b clock s) (sym o) ∙ r)) in
    let inside = (reply-fits config b clock s out 0 _ len y r).inside in
    let whole = ap (reply_by config b clock s out) o ∙ put out reply (omega (arith, size, inside)) in (
      document config b clock s e,
      (
        done_at config b clock s (length out) (document config b clock s e) (stored config b clock s e) y z small a,
        ap (λ (l : List ℕ). part l 16 8) whole
            ∙ sent-cas h.opcode h.opaque x (key_in s) shown (drop (length reply) out) (λ q. sent (size ∙ q))
            ∙ ap (bytes_of 8) (cas-is config b clock s e zero),
      ),
    )

-- ---- Get
module _ (config : Config) (b : List ℕ) (clock : ℕ) (s : List ℕ) (e : among (opcode s) gets ≡ true) where
  abbrev keyed : Bool
  keyed = among (opcode s) (0x0c ∷ 0x0d ∷ [])

  gets-it : command config b clock s ≡ Get keyed
  unfolding shape_of command_of among
  gets-it =
      command-asked config b clock s
      ∙ at-opcode (λ n. ask (seen config b clock s) (extras_in s) n ≡ Get (among n (0x0c ∷ 0x0d ∷ []))) (opcode s) gets (refl, (refl, (refl, (refl, tt)))) e

  shows-it : (d : Doc) → doc_at b (key_in s) ≡ Some d → cond (silent config b clock s) [] (said config b clock s (done config b clock s)) ≡ get_reply s d
  unfolding done_of rule_of
  shows-it d there = rw (gets-it, and-false (instruction config b clock s).quiet, there)

pub get-replies : (config : Config) → GetReplies config
get-replies config b clock s out d len y z there e r = sent config b clock s out len (get_reply s d) y z r (shows-it config b clock s e d there)

-- ---- order 4
and-true : (a : Bool) → (a && true) ≡ a
and-true true = refl
and-true false = refl

touches-write : all_pass (λ n. among n writers) touches ≡ true
unfolding among
touches-write = refl

joins_write : all_pass (λ n. among n writers) joins ≡ true
unfolding among
joins_write = refl

-- a reply that shows the document, or is bare
abbrev answering : Bool → ℕ → Reply
answering shown flags = cond shown (Found flags false) Bare

by-shown : (s : List ℕ) (shown : Bool) (flags : ℕ) (key : Key) (rows : List Row) (now cas : ℕ)
    → good_reply s (reply_extras (answering shown flags)) (reply_key (answering shown flags) key)
    (reply_value (answering shown flags) (reply_shows (answering shown flags) rows now key)) cas
    ≡ touch_reply s shown flags (doc_value (find_row rows key)) cas
by-shown s true flags key rows now cas = refl
by-shown s false flags key rows now cas = refl

module _ (config : Config) (b : List ℕ) (clock : ℕ) (s : List ℕ) (e : among (opcode s) touches ≡ true) where
  asks-touch : command config b clock s ≡ Touch (record { expiry = num (extras_in s) 0 4; shown = eqb (opcode s) 0x1d })
  asks-touch = command-asked config b clock s ∙ showing (seen config b clock s) (extras_in s) (opcode s) e

  touch-loud : (instruction config b clock s).quiet ≡ false
  unfolding request_of shape_of
  touch-loud = at-opcode (λ n. (shape_of n).quiet ≡ false) (opcode s) touches (refl, (refl, tt)) e

  touch-said : (d : Doc) → doc_at b (key_in s) ≡ Some d
      → cond (silent config b clock s) [] (said config b clock s (done config b clock s)) ≡ touch_reply s (eqb (opcode s) 0x1d) d.numbers.flags d.value (done config b clock s).cas.0
  unfolding done_of
  touch-said d there =
      let shown = eqb (opcode s) 0x1d in
      let cas = (cas_after (seen config b clock s).head.mark).0 in
      rw (touch-loud, asks-touch)
      (by-shown s shown (numbers_of (seen config b clock s).row).flags (key_in s) (table_of b).rows (clock_at (table_of b) clock) cas
      ∙ (λ i. touch_reply s shown (numbers_of (stored_of (there i))).flags (doc_value (there i)) cas))

pub touch-replies : (config : Config) → TouchReplies config
touch-replies config b clock s out d len y z small there e r =
    let w = tested (λ n. among n writers) (opcode s) touches touches-write e in
    let reply : ℕ → List ℕ = touch_reply s (eqb (opcode s) 0x1d) d.numbers.flags d.value in (
      document config b clock s w,
      (
        done_at config b clock s (length out) (document config b clock s w) (stored config b clock s w) y z small (len, r),
        sent config b clock s out len _ y z r (touch-said config b clock s e d there ∙ ap reply (stores config b clock s w).cas),
      ),
    )

module _ (config : Config) (b : List ℕ) (clock : ℕ) (s : List ℕ) (e : among (opcode s) joins ≡ true) where
  join-quiet : (instruction config b clock s).quiet ≡ among (opcode s) (0x19 ∷ 0x1a ∷ [])
  unfolding request_of shape_of among
  join-quiet = at-opcode (λ n. (shape_of n).quiet ≡ among n (0x19 ∷ 0x1a ∷ [])) (opcode s) joins (refl, (refl, (refl, (refl, tt)))) e

  join-said : (side : Side) → command config b clock s ≡ Join side → cond (silent config b clock s) [] (said config b clock s (done config b clock s)) ≡ join_reply s (done config b clock s).cas.0
  unfolding done_of rule_of
  join-said side asks =
      let q = (instruction config b clock s).quiet in
      rw asks (ap (λ (x : Bool). cond x [] (good_reply s [] [] [] (join_done (seen config b clock s) side).cas.0)) (and-true q ∙ join-quiet))

pub join-replies : (config : Config) → JoinReplies config
unfolding request_of
join-replies config b clock s out d len y z small there e r =
    let w = tested (λ n. among n writers) (opcode s) joins joins_write e in
    let (side, asks) = joining (seen config b clock s) (extras_in s) (opcode s) e in (
      document config b clock s w,
      (
        done_at config b clock s (length out) (document config b clock s w) (stored config b clock s w) y z small (len, r),
        sent config b clock s out len _ y z r (join-said config b clock s e side asks ∙ ap (join_reply s) (stores config b clock s w).cas),
      ),
    )
