-- Each field that was recorded is read back and goes on; and what the box records is what the definition has.
use Rattle.std.specs.Prelude.{Option, Some}
use native.Mathlib.Omega.{arith}
use native.Mathlib.Nat.{add-zero}
use Prim.Native.Nat.{ℕ, suc, ◌+◌, ◌^◌, ◌≤◌, ◌<◌}
use mathlib.Core.Path.{◌≡◌, refl, sym, ap, ◌∙◌}
use mathlib.Core.Bool.{Bool, true, false, cond}
use mathlib.Core.List.{List, [], ◌∷◌, ◌++◌, append_assoc}
use lib.ListN.{length, drop, length-append}
use lib.Dec.{eqb}
use borrow.Author.Tests.{le-ltb, eqb-true, ne_eqb, eq-eqb}
use Rattle.engine.specs.declared.Config.{Config}
use Rattle.octets.specs.BigEndian.{bytes_of}
use Rattle.octets.proofs.Choices.{cases}
use Rattle.octets.proofs.Tests.{same_refl}
use Rattle.rows.specs.Table.{table_bytes, fresh}
use Rattle.serving.specs.Serve.{Served, gate_all, answer_by, table_by, served, served_table, served_reply}
use Rattle.trace.specs.declared.Field.{Field}
use Rattle.trace.specs.declared.Field.TheVariants.{Clock, Frame, Reply, Rule}
use Rattle.trace.specs.Trace.{Placed, length_in, field_of, is_rule, field_at, is_broken, placed_from, fields_from}
use Rattle.trace.proofs.Fields.{fields-on}
use Rattle.trace_writer.specs.Writing.{field_bytes, rule_field, opening_bytes, clock_fields, frame_fields}
use Rattle.trace_writer.specs.Claims.{FieldBack}
use Rattle.trace_writer.proofs.FieldLaws.{clock-same, clock-other, length-opening, length-field, length-frame}
use Rattle.trace_writer.proofs.ReadBack.{clock-back, frame_back, reply-back, rule-back, opening-back}
use Rattle.replay.specs.Replay.{Differs, Stopped, Replayed, Voyage, On, End, is_one_frame, with_clock, with_frame, reply_for, sent_reply, on_turn, After, walked, set_out, ruled_by, replayed}
use Rattle.replay.proofs.Frames.{sent-by}
use Rattle.voyages.specs.Serving.{OneFrame}
use Rattle.voyages.specs.Recorded.{Asked, left, left_by_all, AllServed, fields_added, RecordedReplays, RoomAlike}

-- a rule stands at place 3, any other field anywhere
pub at_first : (s : List ℕ) → field_at 3 s ≡ field_of s
unfolding field_at
at_first s = refl

pub at-any : (at : ℕ) (s : List ℕ) → is_rule (field_of s) ≡ false → field_at at s ≡ field_of s
unfolding field_at
at-any at s e = cases (eqb at 3) (λ t. rw t refl) (λ t. rw (t, e) refl)

-- a field that was written is the first of those that stand there
pub first-at : (at tag : ℕ) (xs rest : List ℕ) (f : Option Field) → FieldBack tag xs rest f → field_at at (field_bytes tag xs ++ rest) ≡ field_of (field_bytes tag xs ++ rest) → is_broken f ≡ false
    → fields_from at (field_bytes tag xs ++ rest) ≡ record { at = at; field = f; bytes = xs } ∷ fields_from (at + (3 + length xs)) rest
first-at at tag xs rest f w k e =
    let s = field_bytes tag xs ++ rest in
    let on : ℕ → List Placed = λ n. fields_from (at + (3 + n)) (drop (3 + n) s) in
    let is : field_at at s ≡ f = k ∙ w.field in
    let here : ◌≡◌ {A = Placed} (record { at = at; field = field_at at s; bytes = _ }) (record { at = at; field = f; bytes = xs }) = λ i. record { at = at; field = is i; bytes = w.bytes i } in
    let after : cond (is_broken (field_at at s)) [] (on (length_in s)) ≡ fields_from (at + (3 + length xs)) rest =
    (λ i. cond (is_broken (is i)) [] (on (w.length-said i))) ∙ (ap (λ (t : Bool). cond t [] (on (length xs))) e ∙ ap (fields_from (at + (3 + length xs))) w.after) in
    fields-on at s (omega (arith, length-append (field_bytes tag xs) rest, length-field tag xs)) ∙ (λ i. here i ∷ after i)

first : (at tag : ℕ) (xs rest : List ℕ) (f : Option Field) → FieldBack tag xs rest f → is_rule f ≡ false → is_broken f ≡ false
    → fields_from at (field_bytes tag xs ++ rest) ≡ record { at = at; field = f; bytes = xs } ∷ fields_from (at + (3 + length xs)) rest
first at tag xs rest f w r e = first-at at tag xs rest f w (at-any at (field_bytes tag xs ++ rest) (ap is_rule w.field ∙ r)) e

-- ---- the three fields of a frame, whatever the place
module _ (config : Config) (v : Voyage) (rest : List ℕ) (z : After) where
  abbrev Ends : Voyage → List ℕ → Type 0
  Ends w s = (at : ℕ) → walked config w (fields_from at s) ≡ z

  clock-on : (clock : ℕ) → clock < 2 ^ 32 → Ends (with_clock clock v) rest → Ends v (clock_fields v.clock clock ++ rest)
  clock-on clock h k at =
      cases (eqb clock v.clock)
      (λ t.
      ap (λ (s : List ℕ). walked config v (fields_from at (s ++ rest))) (clock-same v.clock clock t)
      ∙ (λ i. walked config (with_clock (sym (eqb-true clock v.clock t) i) v) (fields_from at rest)) ∙ k at)
      (λ f.
      let w = clock-back clock rest h in
      ap (λ (s : List ℕ). walked config v (fields_from at (s ++ rest))) (clock-other v.clock clock f)
      ∙ ap (walked config v) (first at 1 (bytes_of 4 clock) rest (Some (Clock clock)) w refl refl) ∙ k (at + (3 + length (bytes_of 4 clock))))

  frame_on : (frame : List ℕ) → length frame < 65536 → OneFrame config v.table v.clock frame (length frame) → Ends (with_frame config frame v) rest → Ends v (field_bytes 2 frame ++ rest)
  frame_on frame h o k at =
      let next = at + (3 + length frame) in
      let one : is_one_frame (served config v.table v.clock frame 1302) (length frame) ≡ true =
      ap (λ (r : Served). is_one_frame r (length frame)) o.answer ∙ eq-eqb (length frame) (length frame) refl in
      ap (walked config v) (first at 2 frame rest (Some (Frame (length frame))) (frame_back frame rest h) refl refl)
      ∙ ap (λ (t : Bool). on_turn v (cond t (On (with_frame config frame v)) (End (Stopped at))) (λ w. walked config w (fields_from next rest))) one ∙ k next

  reply-on : length v.reply < 65536 → 1 ≤ v.frames → Ends v rest → Ends v (field_bytes 3 v.reply ++ rest)
  reply-on h n k at =
      let reply = v.reply in
      let next = at + (3 + length reply) in
      let some : eqb v.frames 0 ≡ false = ne_eqb v.frames 0 (λ e. omega (arith, n, e)) in
      ap (walked config v) (first at 3 reply rest (Some (Reply (length reply))) (reply-back reply rest h) refl refl)
      ∙ (λ i. on_turn v (cond (some i) (End (Stopped at)) (cond (same_refl reply i) (On v) (End (Differs at)))) (λ w. walked config w (fields_from next rest))) ∙ k next

-- ---- all frames
no_fields : (at : ℕ) → fields_from at [] ≡ []
unfolding fields_from placed_from
no_fields at = refl

parts : (last clock : ℕ) (frame reply rest : List ℕ) → frame_fields last clock frame reply ++ rest ≡ clock_fields last clock ++ (field_bytes 2 frame ++ (field_bytes 3 reply ++ rest))
unfolding frame_fields
parts last clock frame reply rest =
    append_assoc (clock_fields last clock) (field_bytes 2 frame ++ field_bytes 3 reply) rest
    ∙ ap (λ (s : List ℕ). clock_fields last clock ++ s) (append_assoc (field_bytes 2 frame) (field_bytes 3 reply) rest)

walks : (config : Config) (b : List ℕ) (last n : ℕ) (reply : List ℕ) (xs : List Asked) → AllServed config b xs → length (fields_added config b last xs) < 65536 → (at : ℕ)
    → walked config (record { table = b; clock = last; frames = n; reply = reply }) (fields_from at (fields_added config b last xs))
    ≡ record { answer = Replayed (n + length xs); table = left_by_all config b xs }
walks config b last n reply [] q h at =
    ap (walked config (record { table = b; clock = last; frames = n; reply = reply })) (no_fields at) ∙ (λ i. record { answer = Replayed (sym (add-zero n) i); table = b })
walks config b last n reply (a ∷ xs) q h at =
    let v : Voyage = record { table = b; clock = last; frames = n; reply = reply } in
    let sent = sent_reply config b a.clock a.frame in
    let w : Voyage = record { table = left config b a; clock = a.clock; frames = n + 1; reply = sent } in
    let more = fields_added config (left config b a) a.clock xs in
    let z : After = record { answer = Replayed (n + 1 + length xs); table = left_by_all config (left config b a) xs } in
    let size = length-append (frame_fields last a.clock a.frame sent) more in
    let each = length-frame last a.clock a.frame sent in
    let go : (at : ℕ) → walked config w (fields_from at more) ≡ z = walks config (left config b a) a.clock (n + 1) sent xs q.1.1 (omega (arith, h, size)) in
    let third = reply-on config w more z (omega (arith, h, size, each)) (omega arith) go in
    let second = frame_on config (with_clock a.clock v) (field_bytes 3 sent ++ more) z a.frame (omega (arith, h, size, each)) q.1.0 third in
    let count : n + 1 + length xs ≡ n + suc (length xs) = omega arith in
    ap (λ (s : List ℕ). walked config v (fields_from at s)) (parts last a.clock a.frame sent more)
    ∙ clock-on config v (field_bytes 2 a.frame ++ (field_bytes 3 sent ++ more)) z a.clock q.0 second at
    ∙ (λ i. record { answer = Replayed (count i); table = left_by_all config (left config b a) xs })

pub recorded-replays : (config : Config) → RecordedReplays config
unfolding replayed
recorded-replays config new b mode vbucket xs n m k v q l =
    let table = table_bytes (fresh 32 1 mode vbucket) in
    let rest = fields_added config table 0 xs in
    let size = length-append (opening_bytes mode vbucket) rest in
    let seven = length-opening mode vbucket in
    let o = opening-back mode vbucket rest m k v (omega (arith, l, size, seven)) in
    let same : ruled_by config (opening_bytes mode vbucket ++ rest) ≡ config = λ i. record { engine = config.engine; forcing = (o.forcing ∙ sym new) i } in
    let count : 0 + length xs ≡ length xs = omega arith in
    rw (eq-eqb (length b) 42000 n, o.opening)
    ((λ i. walked (same i) (set_out mode vbucket) (fields_from 3 (o.fields i)))
    ∙ ap (walked config (set_out mode vbucket)) (first-at 3 5 (2 ∷ []) rest (Some (Rule false)) (rule-back false rest) (at_first (rule_field false ++ rest)) refl)
    ∙ walks config table 0 0 [] xs q (omega (arith, l, size, seven)) 7
    ∙ (λ i. record { answer = Replayed (count i); table = left_by_all config table xs }))

-- ---- any room of 1,302 bytes or more
module _ (config : Config) (b s : List ℕ) (room : ℕ) (h : 1302 ≤ room) where
  gate-alike : gate_all config b room s ≡ gate_all config b 1302 s
  unfolding gate_all
  gate-alike = rw (le-ltb room 1302 h) refl

pub room-alike : (config : Config) → RoomAlike config
unfolding served served_table served_reply sent_reply
room-alike config b clock s out st used len y h e =
    let g = gate-alike config b s (length out) h in
    let r = (sent-by config b clock s out st used len (gate_all config b (length out) s) refl y e).1 in
    (ap (answer_by config b clock s) (sym g) ∙ e, (ap (table_by config b clock s) g, r ∙ ap (reply_for config b clock s) g))
