-- `serve_first` serves the first frame that is held, hands its reply on, records both, and holds what stands behind it.
use native.Mathlib.Omega.{arith}
use Rattle.std.proofs.Common.{rules}
use Prim.Native.Nat.{ℕ}
use mathlib.Core.Bool.{Bool, cond}
use mathlib.Core.List.{List}
use mathlib.Core.Path.{◌≡◌, sym, ap, subst, ◌∙◌}
use lib.ListN.{length, take, drop, length-drop}
use Rattle.std.specs.Prelude.{IsTrue}
use Rattle.std.specs.declared.option.Option.{Option}
use Rattle.std.specs.Io.KnownBytes.{Appends}
use Rattle.octets.specs.Parts.{part}
use Rattle.engine.specs.declared.Config.{Config}
use Rattle.serving.specs.Serve.{served_told, Served, served_used, served_length, served, served_table, served_reply}
use Rattle.serving.specs.Serves.{Serves}
use Rattle.tally.specs.declared.Tally.{Tally}
use Rattle.tally.specs.Counts.{counted_of}
use Rattle.contact_box.specs.declared.session.Held.{Held}
use Rattle.contact_box.specs.declared.session.Next.{Next}
use Rattle.contact_box.specs.declared.session.Next.TheVariants.{Close}
use Rattle.contact_box.specs.declared.session.Session.{Session}
use Rattle.contact_box.specs.declared.recorder.Recorder.{Recorder}
use Rattle.contact_box.specs.declared.recorder.Recording.{Recording}
use Rattle.trace_writer.specs.Writing.{frame_fields}
use Rattle.contact_box.specs.Recorder.{Records, HandsOn}
use Rattle.contact_box.specs.Session.{held_of, past, next_of, Waits, first_frame, GoesOne, first_answer, first_reply, Sends}
use Rattle.contact_box.proofs.First.{first-cut, first-whole}
use Rattle.contact_box.proofs.Holding.{held-past, past_fits, used-inside}
use Rattle.contact_box.proofs.Recording.{short}
use Rattle.contact_box.proofs.Waiting.{waits-by}
use Rattle.contact_box.proofs.session.serve_first.Goals as goal

goes_one : (config : Config) (clock : ℕ) (b b' s run out out' : List ℕ) (x : Session) (h : Held) (t : Tally) (v : Recorder) (a : Served)
    (used len : ℕ) (frame reply : List ℕ) (next : Next) (written : Bool)
    → run ≡ held_of x.held s → frame ≡ first_frame run → Serves config b clock frame out a b' out'
    → used ≡ served_used a → len ≡ served_length a → reply ≡ part out' 0 len → Records x.recorder clock a frame reply v → h ≡ past x.held used
    → t ≡ counted_of x.tally a → next ≡ cond written (next_of a) Close
    → GoesOne config clock (held_of x.held s) b out b' s x (record { held = h; tally = t; next = next; recorder = v })
goes_one config clock b b' s run out out' x h t v a used len frame reply next written e f q u l sent w k c z =
    let y = held_of x.held s in
    let g : frame ≡ first_frame y = f ∙ ap first_frame e in
    let answered : a ≡ served config b clock (first_frame y) (length out) = q.answer ∙ ap (λ (ys : List ℕ). served config b clock ys (length out)) g in
    let reply-is : reply ≡ take (served_length a) (served_reply config b clock frame out) = sent ∙ (λ i. take (l i) (q.reply i)) in
    let left : h ≡ past x.held (served_used a) = k ∙ ap (past x.held) u in
    let kept : held_of h s ≡ drop (served_used a) y = ap (λ (o : Held). held_of o s) left ∙ held-past x.held s (served_used a) in
    record {
      answer = a;
      answered = answered;
      whole = λ st m n i. first-whole y config b clock (length out) st m n (sym answered ∙ i);
      stored = q.table ∙ ap (λ (ys : List ℕ). served_table config b clock ys (length out)) g;
      counted = c;
      left = left;
      kept = kept;
      recorded =
          subst (λ (ys : List ℕ). Records x.recorder clock a ys (take (served_length a) (served_reply config b clock ys out)) v) g
          (subst (λ (ys : List ℕ). Records x.recorder clock a frame ys v) reply-is w);
      waits =
          subst (λ (n : Next). Waits n (held_of h s)) (sym z)
          (waits-by (held_of h s) a written
          (λ need i. omega (arith, first-cut y config b clock (length out) need (sym answered ∙ i), ap length kept, length-drop (served_used a) y)));
    }

-- what the call answered and replied, told of what is held
module _ (config : Config) (clock : ℕ) (b b' run out out' y : List ℕ) (a : Served) (len : ℕ) (frame reply : List ℕ) (e : run ≡ y) (f : frame ≡ first_frame run)
    (q : Serves config b clock frame out a b' out') (l : len ≡ served_length a) (sent : reply ≡ part out' 0 len) where
  framed : frame ≡ first_frame y
  framed = f ∙ ap first_frame e

  answered : a ≡ first_answer config clock y b out
  answered = q.answer ∙ ap (λ (ys : List ℕ). served config b clock ys (length out)) framed

  replied : reply ≡ first_reply config clock y b out
  replied =
      sent ∙ (λ i. take (l i) (q.reply i)) ∙ ap (λ (r : Served). take (served_length r) (served_reply config b clock frame out)) answered
      ∙ ap (λ (ys : List ℕ). take (served_length (first_answer config clock y b out)) (served_reply config b clock ys out)) framed

  pub sends : (next : Next) (written : Bool) (old new : Option (List ℕ)) → next ≡ cond written (next_of a) Close → (IsTrue written → Appends old new reply)
      → Sends (first_answer config clock y b out) (first_reply config clock y b out) old new next
  sends next written old new z h = record {
    written = written;
    goes = z ∙ ap (λ (r : Served). cond written (next_of r) Close) answered;
    sent = λ t. subst (Appends old new) replied (h t);
  }

  pub traced : (recording : Recording) (last : ℕ) (old new : Option (List ℕ)) → HandsOn a recording old new (frame_fields last clock frame reply)
      → HandsOn (first_answer config clock y b out) recording old new (frame_fields last clock (first_frame y) (first_reply config clock y b out))
  traced recording last old new h =
      let fields : frame_fields last clock frame reply ≡ frame_fields last clock (first_frame y) (first_reply config clock y b out) =
      (λ i. frame_fields last clock (framed i) (replied i)) in
      subst (λ (r : Served). HandsOn r recording old new (frame_fields last clock (first_frame y) (first_reply config clock y b out))) answered
      (subst (HandsOn a recording old new) fields h)

pub record_answer-recorder-requires : goal.record_answer-recorder-requires
record_answer-recorder-requires g c =
    let a = c.args in
    short a.config a.table.now a.clock c.held_of.result.now _ c.first_frame-frame.result.now c.part-reply.result.now (length a.replies.now) c.length_of.result
    (served_told c.serve_one-answer.result) c.serve_one-answer.ensures.answer (search rules) c.first_frame-frame.ensures c.length_of.ensures c.part-reply.ensures

pub past-requires : goal.past-requires
past-requires g c =
    let a = c.args in
    let run = c.held_of.result.now in
    let frame = c.first_frame-frame in
    let answer = c.serve_one-answer in
    past_fits a.s.held a.received.now c.used_of-used.result run c.held_of.ensures
    (used-inside a.config a.table.now a.clock (length a.replies.now) run frame.result.now (served_told answer.result) c.used_of-used.result frame.ensures answer.ensures.answer
    c.used_of-used.ensures)
    (omega arith) (omega arith)

pub returns-clause-goes : goal.returns-clause-goes
returns-clause-goes g c =
    let a = c.args in
    goes_one a.config a.clock a.table.now _ a.received.now c.held_of.result.now a.replies.now _ a.s c.past.result c.counted.result c.record_answer-recorder.result
    (served_told c.serve_one-answer.result) c.used_of-used.result c.length_of.result c.first_frame-frame.result.now c.part-reply.result.now c.next_after.result
    c.all-written.result c.held_of.ensures c.first_frame-frame.ensures c.serve_one-answer.ensures c.used_of-used.ensures c.length_of.ensures c.part-reply.ensures
    c.record_answer-recorder.ensures.records c.past.ensures c.counted.ensures c.next_after.ensures

pub returns-clause-sent : goal.returns-clause-sent
returns-clause-sent g c =
    let a = c.args in
    sends a.config a.clock a.table.now _ c.held_of.result.now a.replies.now _ (held_of a.s.held a.received.now) (served_told c.serve_one-answer.result) c.length_of.result
    c.first_frame-frame.result.now c.part-reply.result.now c.held_of.ensures c.first_frame-frame.ensures c.serve_one-answer.ensures c.length_of.ensures
    c.part-reply.ensures c.next_after.result c.all-written.result _ _ c.next_after.ensures c.all-written.ensures

pub returns-clause-traced : goal.returns-clause-traced
returns-clause-traced g c =
    let a = c.args in
    traced a.config a.clock a.table.now _ c.held_of.result.now a.replies.now _ (held_of a.s.held a.received.now) (served_told c.serve_one-answer.result) c.length_of.result
    c.first_frame-frame.result.now c.part-reply.result.now c.held_of.ensures c.first_frame-frame.ensures c.serve_one-answer.ensures c.length_of.ensures
    c.part-reply.ensures c.record_answer-recorder.result.recording a.s.recorder.clock _ _ c.record_answer-recorder.ensures.fields
