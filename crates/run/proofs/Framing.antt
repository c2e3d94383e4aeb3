-- Frames one after another: one call more, and what the frames are where each is served.
use native.Mathlib.Omega.{arith}
use native.Mathlib.Nat.{zero-add}
use Prim.Native.Nat.{ℕ, zero, suc, ◌+◌, ◌-◌, ◌^◌, ◌≤◌, ◌<◌}
use mathlib.Core.Path.{◌≡◌, refl, sym, ap, subst, ◌∙◌}
use mathlib.Core.Bool.{true}
use mathlib.Core.List.{List, ◌++◌, append-nil}
use lib.ListN.{length, take, drop, length-drop, drop_of_length-le, take-append-drop}
use lib.Seq.{take_all}
use borrow.Rule.Slice.PartMut.{mid_of, put_mid}
use Rattle.engine.specs.declared.Config.{Config}
use Rattle.engines.specs.Damage.{sound_by}
use Rattle.octets.specs.Parts.{Bytes}
use Rattle.octets.proofs.Lists.{bytes_drop}
use Rattle.document.specs.declared.Head.{Head}
use Rattle.rows.specs.Table.{head_of}
use Rattle.tally.specs.declared.Tally.{Tally}
use Rattle.tally.specs.Counts.{counted_of}
use Rattle.serving.specs.Serves.{Serves}
use Rattle.serving.specs.Serve.{Served, Refused, Done, served_used, served, served_table, served_reply}
use Rattle.serving.proofs.Gated.{refused-keeps}
use Rattle.serving.proofs.Sound.{stays-sound}
use Rattle.step.specs.Step.{Stepped, Steps, step_of}
use Rattle.step.proofs.Told.{Told, step-told, step_left}
use Rattle.serve.proofs.Stepping.{stepped}
use Rattle.run.specs.Run.{Ran, Stand, begun, called_on, further, stand_after, run_end, ran_of}
use Rattle.run.specs.Frames.{Framed, after_frame, on_answer, frames_from, step_at, serve_at, Leaves}
use Rattle.run.proofs.Runs.{by-served, consumed, stops, goes}

-- ---- one call
module _ (call : Stand → Stepped) (x : Stand) (y : Stepped) (e : call x ≡ y) where
  pub frame-goes : (n st used len : ℕ) → y.answer ≡ Done st used len → frames_from call (suc n) x ≡ frames_from call n (after_frame x y st used len)
  unfolding frames_from
  frame-goes n st used len d = (λ i. on_answer x (e i) (e i).answer (frames_from call n)) ∙ ap (λ (a : Served). on_answer x y a (frames_from call n)) d

  pub frame-lasts : (st used len : ℕ) → y.answer ≡ Done st used len → frames_from call 0 x ≡ record { stand = after_frame x y st used len; stop = Done st used len }
  unfolding frames_from
  frame-lasts st used len d =
      (λ i. on_answer x (e i) (e i).answer (λ z. record { stand = z; stop = (e i).answer })) ∙ ap (λ (a : Served). on_answer x y a (λ z. record { stand = z; stop = a })) d

  pub frame-stops : (n k need : ℕ) → y.answer ≡ Refused k need → frames_from call n x ≡ record { stand = x; stop = Refused k need }
  unfolding frames_from
  frame-stops zero k need d =
      (λ i. on_answer x (e i) (e i).answer (λ z. record { stand = z; stop = (e i).answer })) ∙ ap (λ (a : Served). on_answer x y a (λ z. record { stand = z; stop = a })) d
  frame-stops (suc n) k need d = (λ i. on_answer x (e i) (e i).answer (frames_from call n)) ∙ ap (λ (a : Served). on_answer x y a (frames_from call n)) d

-- ---- one turn of the loop: the part of the reply area past the replies is lent to the step
module _ (config : Config) (clock : ℕ) (run b out : List ℕ) (t : Tally) (at filled : ℕ) (head : Head) (s : List ℕ) (r : Served) (b' ys : List ℕ)
    (eh : head ≡ head_of b) (es : s ≡ drop at run) (q : Steps (step_of config b head clock s (mid_of filled (length out - filled) out)) r b' ys) where
  abbrev pub now : Stand
  now = record { table = b; reply = out; tally = t; at = at; filled = filled }

  abbrev made : Stepped
  made = record { answer = r; table = b'; reply = ys }

  room : length (drop filled out) ≡ length out - filled
  room = length-drop filled out

  mid : mid_of filled (length out - filled) out ≡ drop filled out
  mid = take_all (length out - filled) (drop filled out) (omega (arith, room))

  put : put_mid filled (length out - filled) out ys ≡ take filled out ++ ys
  put = ap (λ (zs : List ℕ). take filled out ++ zs) (ap (λ (zs : List ℕ). ys ++ zs) (drop_of_length-le (drop filled out) {i = length out - filled} (omega (arith, room))) ∙ append-nil ys)

  pub turn-steps : step_at config clock run now ≡ made
  turn-steps =
      sym (λ i. step_of config b (eh i) clock (es i) (mid i)) ∙ sym (λ i. record { answer = q.answer i; table = q.table i; reply = q.reply i })

  pub turn-told : (st used len : ℕ) → r ≡ Done st used len → Told config b (head_of b) clock (drop at run) (drop filled out) used len
  turn-told st used len e = step-told config b (head_of b) clock (drop at run) (drop filled out) st used len (ap (λ (y : Stepped). y.answer) turn-steps ∙ e)

  -- on a table that is not damaged it is served, and the table stays so
  module _ (y : Bytes b) (z : Bytes run) (small : clock < 2 ^ 32) (sound : sound_by config b ≡ true) where
    serves : Serves config b clock s (mid_of filled (length out - filled) out) r b' ys
    serves = stepped config b head clock s (mid_of filled (length out - filled) out) r b' ys y (subst Bytes (sym es) (bytes_drop at run z)) small sound eh q

    size : length (mid_of filled (length out - filled) out) ≡ length out - filled
    size = ap length mid ∙ room

    pub turn-serves : serve_at config clock run now ≡ made
    turn-serves = sym (λ i. record {
      answer = (serves.answer ∙ (λ j. served config b clock (es j) (size j))) i;
      table = (serves.table ∙ (λ j. served_table config b clock (es j) (size j))) i;
      reply = (serves.reply ∙ (λ j. served_reply config b clock (es j) (mid j))) i;
    })

    pub turn-sound : sound_by config b' ≡ true
    turn-sound =
        rw (serves.table ∙ (λ j. served_table config b clock (es j) (size j)))
        (stays-sound config b clock (drop at run) y (bytes_drop at run z) small sound (length out - filled))

  -- by a call that is this step
  module _ (call : Stand → Stepped) (e : call now ≡ made) where
    pub turn_on : (m n st used len : ℕ) → m ≡ suc n → r ≡ Done st used len → (t' : Tally) → t' ≡ counted_of t (Done st used len)
        → frames_from call m now ≡ frames_from call n (record { table = b'; reply = put_mid filled (length out - filled) out ys; tally = t'; at = at + used; filled = filled + len })
    turn_on m n st used len k d t' et =
        (λ i. frames_from call (k i) now) ∙ frame-goes call now made e n st used len d
        ∙ sym (λ i. frames_from call n (record { table = b'; reply = put i; tally = et i; at = at + used; filled = filled + len }))

    pub turn-lasts : (n st used len : ℕ) → n ≡ 0 → r ≡ Done st used len → (t' : Tally) → t' ≡ counted_of t (Done st used len) → (f : Framed) → frames_from call n now ≡ f
        → Leaves f (record { cursor = record { at = at + used }; filled = filled + len; tally = t'; stop = Done st used len }) b' (put_mid filled (length out - filled) out ys)
    turn-lasts n st used len z d t' et f p =
        let w = sym ((λ i. frames_from call (z i) now) ∙ frame-lasts call now made e st used len d) ∙ p in
        subst (λ (z : Framed). Leaves z (record { cursor = record { at = at + used }; filled = filled + len; tally = t'; stop = Done st used len }) b' (put_mid filled (length out - filled) out ys)) w
        (record { ran = λ i. record { cursor = record { at = at + used }; filled = filled + len; tally = et i; stop = Done st used len }; table = refl; reply = put })

    pub turn-ends : (n k need : ℕ) → r ≡ Refused k need → (f : Framed) → frames_from call n now ≡ f
        → Leaves f (record { cursor = record { at = at }; filled = filled; tally = t; stop = r }) b' (put_mid filled (length out - filled) out ys)
    turn-ends n k need d f p =
        let w = sym (frame-stops call now made e n k need d) ∙ p in
        let k = step_left config b (head_of b) clock (drop at run) (drop filled out) k need (ap (λ (y : Stepped). y.answer) turn-steps ∙ d) in
        let table = sym (ap (λ (y : Stepped). y.table) turn-steps) ∙ k.0 in
        let reply = sym (ap (λ (y : Stepped). y.reply) turn-steps) ∙ k.1 in
        subst (λ (z : Framed). Leaves z (record { cursor = record { at = at }; filled = filled; tally = t; stop = r }) b' (put_mid filled (length out - filled) out ys)) w
        (record {
          ran = λ i. record { cursor = record { at = at }; filled = filled; tally = t; stop = d i };
          table = table;
          reply = put ∙ (ap (λ (zs : List ℕ). take filled out ++ zs) reply ∙ take-append-drop filled out);
        })

-- ---- frames that are served
module _ (config : Config) (clock : ℕ) (run : List ℕ) where
  abbrev call : Stand → Stepped
  call = serve_at config clock run

  -- enough of them are the run
  pub all-frames : (n : ℕ) (x : Stand) → length run - x.at ≤ n
      → frames_from call n x ≡ record { stand = stand_after config n clock run x; stop = called_on config clock run (stand_after config n clock run x) }
  all-frames zero x h =
      by-served (called_on config clock run x)
      (λ k need e.
      frame-stops call x (call x) refl 0 k need e
      ∙ (λ i. record { stand = sym (stops config clock run 0 k need x e) i; stop = (sym e ∙ ap (called_on config clock run) (sym (stops config clock run 0 k need x e))) i }))
      (λ st used len e. let w = consumed config clock run x st used len e in absurd (omega (arith, w.least, w.inside, length-drop x.at run)))
  all-frames (suc n) x h =
      by-served (called_on config clock run x)
      (λ k need e.
      let s = sym (stops config clock run (suc n) k need x e) in
      frame-stops call x (call x) refl (suc n) k need e ∙ (λ i. record { stand = s i; stop = (sym e ∙ ap (called_on config clock run) s) i }))
      (λ st used len e.
      let w = consumed config clock run x st used len e in
      let g = sym (goes config clock run n st used len x e) in
      frame-goes call x (call x) refl n st used len e
      ∙ (all-frames n (further config clock run x st used len) (omega (arith, w.least, w.inside, length-drop x.at run))
      ∙ (λ i. record { stand = g i; stop = called_on config clock run (g i) })))

  -- what is left where they are all served
  pub run-left : (b out : List ℕ) (t : Tally) (r : Ran) (b' out' : List ℕ) → Leaves (frames_from call (length run) (begun b out t)) r b' out'
      → (r ≡ ran_of config clock run (run_end config clock run (begun b out t)))
      × ((b' ≡ (run_end config clock run (begun b out t)).table) × (out' ≡ (run_end config clock run (begun b out t)).reply))
  unfolding ran_of run_end
  run-left b out t r b' out' l =
      let w = all-frames (length run) (begun b out t) (omega arith) in (
        l.ran ∙ (λ i. record { cursor = record { at = (w i).stand.at }; filled = (w i).stand.filled; tally = (w i).stand.tally; stop = (w i).stop }),
        (l.table ∙ ap (λ (f : Framed). f.stand.table) w, l.reply ∙ ap (λ (f : Framed). f.stand.reply) w),
      )

  -- and of one
  pub record One (b out : List ℕ) (r : Ran) (b' out' : List ℕ) : Type 0 where
    pub serves : Serves config b clock run out r.stop b' out'
    pub at : r.cursor.at ≡ served_used r.stop

  abbrev ran_from : Framed → Ran
  ran_from f = record { cursor = record { at = f.stand.at }; filled = f.stand.filled; tally = f.stand.tally; stop = f.stop }

  abbrev OneOf : List ℕ → List ℕ → Framed → Type 0
  OneOf b out f = One b out (ran_from f) f.stand.table f.stand.reply

  one-frame : (b out : List ℕ) (t : Tally) → OneOf b out (frames_from call 0 (begun b out t))
  one-frame b out t =
      let x = begun b out t in
      let room : length out - 0 ≡ length out = omega arith in
      by-served (called_on config clock run x)
      (λ k need e.
      let keeps = refused-keeps config b clock run out k need (ap (served config b clock run) (sym room) ∙ e) in
      subst (OneOf b out) (sym (frame-stops call x (call x) refl 0 k need e)) (record {
        serves = record { answer = sym e ∙ ap (served config b clock run) room; table = sym keeps.0; reply = sym keeps.1 };
        at = refl;
      }))
      (λ st used len e.
      subst (OneOf b out) (sym (frame-lasts call x (call x) refl st used len e)) (record {
        serves = record { answer = sym e ∙ ap (served config b clock run) room; table = ap (served_table config b clock run) room; reply = refl };
        at = zero-add used;
      }))

  pub one_left : (b out : List ℕ) (t : Tally) (r : Ran) (b' out' : List ℕ) → Leaves (frames_from call 0 (begun b out t)) r b' out' → One b out r b' out'
  one_left b out t r b' out' l =
      let f = frames_from call 0 (begun b out t) in
      let ran = subst (λ (z : Ran). One b out z f.stand.table f.stand.reply) (sym l.ran) (one-frame b out t) in
      subst (λ (m : List ℕ). One b out r m out') (sym l.table) (subst (λ (m : List ℕ). One b out r f.stand.table m) (sym l.reply) ran)
