-- What serving leaves in the reply area.
use native.Mathlib.Omega.{arith}
use Prim.Native.Nat.{ℕ, ◌+◌, ◌-◌, ◌≤◌}
use mathlib.Core.Path.{◌≡◌, refl, sym, ap, ◌∙◌, subst}
use mathlib.Core.Bool.{Bool, true, false, cond, not, ◌&&◌}
use mathlib.Core.List.{List, [], ◌∷◌, ◌++◌, append-nil}
use lib.ListN.{length, drop}
use lib.Seq.{drop-append_seam}
use lib.Dec.{ltb, eqb}
use borrow.Author.Tests.{eqb-true, ne_eqb}
use Rattle.engine.specs.declared.Config.{Config}
use Rattle.octets.specs.Parts.{Bytes, pasted, written}
use Rattle.octets.specs.BigEndian.{num, bytes_of}
use Rattle.octets.proofs.Choices.{cases}
use Rattle.octets.proofs.Lists.{written-fits, length-written}
use Rattle.octets.proofs.Numbers.{num-back}
use Rattle.shape.specs.Shapes.{Shape, commands, unbuilt, shape_by, among, look_up, shape_of}
use Rattle.shape.proofs.ShapeLaws.{Each, looked-up, any-shape}
use Rattle.header.specs.declared.Header.{Header}
use Rattle.header.specs.Header.{header_of, front_bytes, middle_bytes, back_bytes, header_bytes}
use Rattle.header.proofs.HeaderLaws.{length-header}
use Rattle.rules.specs.Rules.{form_ok, field_rules_ok, meta_size, judged, status, forces}
use Rattle.request.specs.Reading.{Gate, Stop, Whole, frame_status, bytes_in, extras_span, key_span, value_span}
use Rattle.document.specs.declared.Head.{Head}
use Rattle.document.specs.Documents.{doc_value}
use Rattle.commands.specs.declared.Context.{Context}
use Rattle.effects.specs.declared.Reply.TheVariants.{Bare}
use Rattle.commands.specs.Rules.{rule_of, status_by}
use Rattle.effects.specs.Done.{nothing}
use Rattle.decision.specs.Decision.{Decision, decision}
use Rattle.decision.specs.Decide.{instruction_of}
use Rattle.decode.specs.Decode.{plain_of, counter_of, meta_command, touch_of, command_of, request_of}
use Rattle.rows.specs.Table.{Table, table_of, table_at, clock_at}
use Rattle.rows.specs.Find.{find_row}
use Rattle.serving.specs.Reply.{reply_shows, reply_header, reply_bytes}
use Rattle.serving.specs.Serve.{Done, reaches_decision, context_on, decision_on, frame_effect, frame_reply, answer_by, reply_by, gate_all, served, served_reply}
use Rattle.serving.proofs.Formed.{by_cond}
use Rattle.serving.proofs.Gated.{was-open}
use Rattle.reply.specs.Fitting.{bare_header}
use Rattle.engines.proofs.Tables.{sound-plain}
use Rattle.reply.proofs.Frames.{reply-most}
use Rattle.promises.specs.Replies.{Fits, ReplyFits, bare_reply, silent_miss, status_reply, StatusReply}

-- ---- a reply that is put at the start of an area where it fits
module _ (out xs : List ℕ) (h : length xs ≤ length out) where
  pub put : written out 0 xs ≡ xs ++ drop (length xs) out
  unfolding pasted
  put = written-fits out 0 xs (omega arith) ∙ ap (λ (n : ℕ). xs ++ drop n out) (let e : 0 + length xs ≡ length xs = omega arith in e)

fits_by : (config : Config) (b : List ℕ) (clock : ℕ) (s out : List ℕ) (st used len : ℕ) (g : Gate) → gate_all config b (length out) s ≡ g → Bytes b → answer_by config b clock s g ≡ Done st used len
    → Fits out len (reply_by config b clock s out g)
fits_by config b clock s out st used len (Stop n need) q y e = absurd (let z : ◌≡◌ {A = ℕ} 0 1 = cc in omega arith)
fits_by config b clock s out st used len (Whole h) q y e =
    let xs = frame_reply config b clock s h in
    let l : length xs ≡ len = cc in
    let w = was-open config b s (length out) h q in
    let m = reply-most config b clock s h y (sound-plain config b w.undamaged) in
    rw (← l) (record {
      most = m;
      inside = omega (arith, m, w.roomy);
      size = length-written out 0 xs;
      past = ap (drop (length xs)) (put out xs (omega (arith, m, w.roomy))) ∙ drop-append_seam xs (drop (length xs) out);
    })

pub reply-fits : (config : Config) → ReplyFits config
unfolding served served_reply
reply-fits config b clock s out st used len y e = fits_by config b clock s out st used len (gate_all config b (length out) s) refl y e

-- ---- who is silent on another status than 0
and_no : (a b : Bool) → b ≡ false → (a && b) ≡ false
and_no true b e = e
and_no false b e = refl

module _ (c : Context) (extras : List ℕ) (op st : ℕ) (z : eqb st 0 ≡ false) where
  -- a command whose quiet form sends nothing on a status
  abbrev silent_by : Shape → Bool
  silent_by x = x.quiet && eqb st (rule_of c (command_of x.operation extras)).silent_on

  abbrev Speaks : Shape → Type 0
  Speaks x = silent_by x ≡ false

  -- every command after the two Gets
  speaks : (q : Bool) → (q && eqb st 0) ≡ false
  speaks q = and_no q (eqb st 0) z

  others : Each Speaks op (drop 2 commands)
  unfolding commands rule_of command_of plain_of counter_of meta_command touch_of
  others = (speaks, (speaks, (speaks, (speaks, (speaks, (speaks, (speaks, (speaks, (speaks, (speaks, (speaks, (speaks, (speaks, (speaks, (speaks, (speaks, tt))))))))))))))))

  silent-is : silent_by (shape_of op) ≡ silent_miss op st
  unfolding shape_of look_up commands among unbuilt rule_of command_of
  silent-is =
      cases (eqb op 0x09) (λ t. rw (eqb-true op 0x09 t))
      (λ f₁. cases (eqb op 0x0d) (λ t. rw (eqb-true op 0x0d t))
      (λ f₂. cases (eqb op 0x00) (λ t. rw (eqb-true op 0x00 t))
      (λ f₃. cases (eqb op 0x0c) (λ t. rw (eqb-true op 0x0c t))
      (λ f₄. rw (f₁, f₂, f₃, f₄) (looked-up Speaks op (drop 2 commands) _ others (by_cond Speaks (among op unbuilt) _ _ (λ t. refl) (λ t. refl)))))))

-- ---- the reader's own statuses: none of them is 0x01
not-missing : (x : Shape) (h : Header) (extras value : List ℕ) → eqb x.status 0 ≡ true → eqb (judged x h extras value) 1 ≡ false
unfolding judged
not-missing x h extras value e =
    rw e (by_cond (λ n. eqb n 1 ≡ false) (not (form_ok x h)) _ _ (λ t. refl)
    (λ t. by_cond (λ n. eqb n 1 ≡ false) (not (field_rules_ok x extras value)) _ _ (λ u. refl)
    (λ u. by_cond (λ n. eqb n 1 ≡ false) (forces x extras) _ _ (λ v. refl)
    (λ v. by_cond (λ n. eqb n 1 ≡ false) (ltb 1024 (length value - meta_size x extras)) _ _ (λ w. refl) (λ w. refl)))))

reader-speaks : (s : List ℕ) (h : Header) → eqb (frame_status s h) 1 ≡ false
unfolding frame_status status judged
reader-speaks s h =
    any-shape (λ x. eqb (judged x h (bytes_in s (extras_span h)) (bytes_in s (value_span h))) 1 ≡ false) h.opcode
    (λ o f q. not-missing (shape_by o f q) h (bytes_in s (extras_span h)) (bytes_in s (value_span h)) refl) refl refl

-- ---- the decision on a frame with another status than 0
abbrev context_for : Table → ℕ → List ℕ → Header → Context
context_for t clock s h = context_on t clock (find_row t.rows (bytes_in s (key_span h)))

abbrev status_alone : Head → ℕ → ℕ → Decision
status_alone hd op st = record { status = st; silent = silent_miss op st; done = nothing hd Bare (record { 0 = 0 }) }

decided-alone : (config : Config) (t : Table) (clock : ℕ) (s : List ℕ) (h : Header) → ((decision (context_for t clock s h) (instruction_of (request_of config.forcing s h))).status ≡ 0 → ⊥)
    → decision (context_for t clock s h) (instruction_of (request_of config.forcing s h))
    ≡ status_alone t.head h.opcode (decision (context_for t clock s h) (instruction_of (request_of config.forcing s h))).status
unfolding decision request_of
decided-alone config t clock s h n =
    let c = context_for t clock s h in
    let i = instruction_of (request_of config.forcing s h) in
    let st = status_by c i (rule_of c i.command) in
    let z = ne_eqb st 0 n in
    let quiet = silent-is c (bytes_in s (extras_span h)) h.opcode st z in
    rw z (λ j. record { status = st; silent = quiet j; done = nothing t.head Bare (record { 0 = 0 }) })

decides-alone : (config : Config) (t : Table) (clock : ℕ) (s : List ℕ) (h : Header) → ((decision_on config t clock s h).status ≡ 0 → ⊥)
    → decision_on config t clock s h ≡ status_alone t.head h.opcode (decision_on config t clock s h).status
unfolding decision_on
decides-alone config t clock s h n =
    cases (reaches_decision s h)
    (λ y. rw y (decided-alone config t clock s h (rw y at n)))
    (λ f. let spoken = and_no (among h.opcode (0x09 ∷ 0x0d ∷ [])) _ (reader-speaks s h) in
    rw f (λ j. record { status = frame_status s h; silent = sym spoken j; done = nothing t.head Bare (record { 0 = 0 }) }))

-- ---- its bytes
bare-header : (s : List ℕ) (st : ℕ) → Bytes s → 24 ≤ length s
    → header_bytes (bare_header (header_of s).opcode (header_of s).opaque st) ≡ bare_reply st s
unfolding header_bytes front_bytes middle_bytes back_bytes header_of bytes_of
bare-header s st y l =
    let op = num-back s 1 1 y (omega arith) in
    let opaque = num-back s 12 4 y (omega arith) in
    λ i. (bytes_of 1 0x81 ++ (op i ++ bytes_of 2 0)) ++ ((bytes_of 1 0 ++ (bytes_of 1 0 ++ bytes_of 2 st)) ++ (bytes_of 4 0 ++ (opaque i ++ bytes_of 8 0)))

alone-reply : (s : List ℕ) (hd : Head) (st : ℕ) (key old : List ℕ) → Bytes s → 24 ≤ length s
    → reply_bytes (header_of s).opcode (header_of s).opaque (status_alone hd (header_of s).opcode st) key old ≡ status_reply st s
unfolding reply_bytes reply_header header_of
alone-reply s hd st key old y l =
    ap (cond (silent_miss (num s 1 1) st) []) (append-nil _ ∙ bare-header s st y l)

alone-size : (st : ℕ) (s : List ℕ) → Bytes s → 24 ≤ length s → length (status_reply st s) ≤ 24
alone-size st s y l =
    by_cond (λ xs. length xs ≤ 24) (silent_miss (num s 1 1) st) [] (bare_reply st s) (λ t. omega arith)
    (λ f. let e = ap length (bare-header s st y l) in omega (arith, length-header (bare_header (header_of s).opcode (header_of s).opaque st)))

module _ (config : Config) (b : List ℕ) (clock : ℕ) (s : List ℕ) where
  abbrev t : Table
  t = table_at (table_of b) clock

  abbrev now : ℕ
  now = clock_at (table_of b) clock

  abbrev StatusAlone : Header → Type 0
  StatusAlone h = ((frame_effect config t now s h).status ≡ 0 → ⊥) → frame_reply config b clock s h ≡ status_reply (frame_effect config t now s h).status s

  frame-status : Bytes s → 24 ≤ length s → StatusAlone (header_of s)
  unfolding frame_reply frame_effect
  frame-status y l n =
      let h = header_of s in
      let key = bytes_in s (key_span h) in
      let shown : Decision → List ℕ = λ d. reply_shows d.done.reply t.rows now key in
      ap (λ (d : Decision). reply_bytes h.opcode h.opaque d key (shown d)) (decides-alone config t now s h n)
      ∙ alone-reply s t.head (decision_on config t now s h).status key (doc_value (find_row t.rows key)) y l

status-by : (config : Config) (b : List ℕ) (clock : ℕ) (s out : List ℕ) (st used len : ℕ) (g : Gate) → gate_all config b (length out) s ≡ g → Bytes s
    → answer_by config b clock s g ≡ Done st used len → (st ≡ 0 → ⊥)
    → (len ≡ length (status_reply st s)) × (reply_by config b clock s out g ≡ status_reply st s ++ drop len out)
status-by config b clock s out st used len (Stop n need) q y e z = absurd (let z : ◌≡◌ {A = ℕ} 0 1 = cc in omega arith)
status-by config b clock s out st used len (Whole h) q y e z =
    let w = was-open config b s (length out) h q in
    let p : (frame_effect config (table_at (table_of b) clock) (clock_at (table_of b) clock) s h).status ≡ st = cc in
    let l : length (frame_reply config b clock s h) ≡ len = cc in
    let f = subst (StatusAlone config b clock s) w.frame.header (frame-status config b clock s y w.frame.long) (λ v. z (sym p ∙ v)) ∙ ap (λ (k : ℕ). status_reply k s) p in
    let m = alone-size st s y w.frame.long in
    let e' = sym l ∙ ap length f in (
      e',
      ap (written out 0) f ∙ (put out (status_reply st s) (omega (arith, m, w.roomy)) ∙ ap (λ (k : ℕ). status_reply st s ++ drop k out) (sym e')),
    )

pub status-reply : (config : Config) → StatusReply config
unfolding served served_reply
status-reply config b clock s out st used len y e z = status-by config b clock s out st used len (gate_all config b (length out) s) refl y e z
