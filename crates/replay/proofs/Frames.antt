-- A frame of a trace, served: its length is its header's, and its reply stands at the start of the reply area.
use native.Mathlib.Omega.{arith}
use Prim.Native.Nat.{ℕ, ◌+◌, ◌^◌, ◌≤◌, ◌<◌}
use mathlib.Core.Path.{◌≡◌, refl, sym, ap, ◌∙◌}
use mathlib.Core.Bool.{true, false, cond}
use mathlib.Core.List.{List}
use lib.ListN.{length, take, drop}
use lib.Dec.{eqb}
use lib.Seq.{take-append_seam}
use borrow.Author.Tests.{eqb-true}
use Rattle.engine.specs.declared.Config.{Config}
use Rattle.octets.specs.Parts.{Bytes, part, pasted, written}
use Rattle.octets.proofs.Lists.{written-fits}
use Rattle.engines.specs.Damage.{sound_by}
use Rattle.engines.proofs.Tables.{sound-plain}
use Rattle.header.specs.declared.Header.{Header}
use Rattle.header.specs.Header.{header_of}
use Rattle.request.specs.Reading.{Gate, Stop, Whole}
use Rattle.serving.specs.Serve.{Served, Refused, Done, gate_all, frame_reply, answer_by, reply_by, served, served_table, served_reply}
use Rattle.serving.specs.Serves.{Serves}
use Rattle.serving.proofs.Gated.{was-open, refused-keeps}
use Rattle.serving.proofs.Sound.{stays-sound}
use Rattle.reply.proofs.Frames.{reply-most}
use Rattle.tally.specs.declared.Tally.{Tally}
use Rattle.run.specs.Run.{Ran, begun}
use Rattle.run.specs.Frames.{frames_from, serve_at, Leaves}
use Rattle.run.proofs.Framing.{one_left}
use Rattle.replay.specs.declared.Progress.{Progress}
use Rattle.std.specs.declared.result.Result.TheVariants.{Ok, Err}
use Rattle.replay.specs.declared.ReplayError.{ReplayError}
use Rattle.replay.specs.declared.ReplayError.TheVariants.{Differs as DiffersAt, Stopped as StoppedAt}
use Rattle.replay.specs.Replay.{Stopped, Turn, On, End, is_one_frame, reply_for, sent_reply, with_frame}
use Rattle.replay.specs.Turns.{voyage_of, FrameTurns}

-- ---- what stands at the start of an area where it was written
start_of : (out xs : List ℕ) → length xs ≤ length out → part (written out 0 xs) 0 (length xs) ≡ xs
unfolding pasted
start_of out xs h = ap (take (length xs)) (written-fits out 0 xs (omega arith)) ∙ take-append_seam xs (drop (0 + length xs) out)

-- ---- a frame that was served
pub record Sent (config : Config) (b : List ℕ) (clock : ℕ) (s out : List ℕ) (used len : ℕ) : Type 0 where
  pub consumed : used ≡ 24 + (header_of s).body
  pub reply : part (served_reply config b clock s out) 0 len ≡ sent_reply config b clock s

module _ (config : Config) (b : List ℕ) (clock : ℕ) (s : List ℕ) where
  abbrev SentBy : List ℕ → ℕ → ℕ → Gate → Type 0
  SentBy out used len g = (used ≡ 24 + (header_of s).body) × (part (reply_by config b clock s out g) 0 len ≡ reply_for config b clock s g)

  pub sent-by : (out : List ℕ) (st used len : ℕ) (g : Gate) → gate_all config b (length out) s ≡ g → Bytes b → answer_by config b clock s g ≡ Done st used len → SentBy out used len g
  sent-by out st used len (Stop n need) q y e = absurd (let z : ◌≡◌ {A = ℕ} 0 1 = cc in omega arith)
  sent-by out st used len (Whole h) q y e =
      let l : length (frame_reply config b clock s h) ≡ len = cc in
      let u : 24 + h.body ≡ used = cc in
      let w = was-open config b s (length out) h q in
      let m = reply-most config b clock s h y (sound-plain config b w.undamaged) in (
        sym u ∙ ap (λ (x : Header). 24 + x.body) (sym w.frame.header),
        rw (← l) (start_of out (frame_reply config b clock s h) (omega (arith, m, w.roomy))),
      )

  pub was-sent : (out : List ℕ) (st used len : ℕ) → length out ≡ 1302 → Bytes b → served config b clock s (length out) ≡ Done st used len → Sent config b clock s out used len
  unfolding served served_reply sent_reply
  was-sent out st used len n y e =
      let w = sent-by out st used len (gate_all config b (length out) s) refl y e in
      record { consumed = w.0; reply = w.1 ∙ ap (λ (k : ℕ). reply_for config b clock s (gate_all config b k s)) n }

-- ---- a field's frame
module _ (config : Config) (b : List ℕ) (frame out : List ℕ) (p : Progress) (n : length out ≡ 1302) (y : Bytes b) (sb : sound_by config b ≡ true) where
  abbrev asked : Served
  asked = served config b p.clock frame 1302

  -- at the size of the reply area
  at_size : served config b p.clock frame (length out) ≡ asked
  at_size = ap (served config b p.clock frame) n

  chosen : is_one_frame asked (length frame) ≡ true
      → ◌≡◌ {A = Turn} (cond (is_one_frame asked (length frame)) (On (with_frame config frame (voyage_of b out p))) (End (Stopped p.at))) (On (with_frame config frame (voyage_of b out p)))
  chosen e = rw e refl

  stays : is_one_frame asked (length frame) ≡ false → FrameTurns config b frame out p (Err (StoppedAt p.at)) b out
  stays e = record { turn = rw e refl; leads = refl; sound = sb }

  not-one : (r : Served) → asked ≡ r → eqb (24 + (header_of frame).body) (length frame) ≡ false → is_one_frame r (length frame) ≡ false
  not-one (Refused k need) e f = refl
  not-one (Done st used len) e f = rw (was-sent config b p.clock frame out st used len n y (at_size ∙ e)).consumed f

  -- more bytes than one frame's, or fewer
  pub frame-cut : eqb (24 + (header_of frame).body) (length frame) ≡ false → FrameTurns config b frame out p (Err (StoppedAt p.at)) b out
  frame-cut f = stays (not-one asked refl f)

  -- a frame by itself, on the table
  module _ (z : Bytes frame) (small : p.clock < 2 ^ 32) (t : Tally) (r : Ran) (b' out' : List ℕ)
      (x : sound_by config b ≡ true → Leaves (frames_from (serve_at config p.clock frame) 0 (begun b out t)) r b' out') where
    call : Serves config b p.clock frame out r.stop b' out'
    call = (one_left config p.clock frame b out t r b' out' (x sb)).serves

    still-sound : sound_by config b' ≡ true
    still-sound = ap (sound_by config) call.table ∙ stays-sound config b p.clock frame y z small sb (length out)

    pub frame_refused : (k need : ℕ) → r.stop ≡ Refused k need → FrameTurns config b frame out p (Err (StoppedAt p.at)) b' out'
    frame_refused k need e =
        let a : asked ≡ Refused k need = sym at_size ∙ (sym call.answer ∙ e) in
        record {
          turn = rw a refl;
          leads = call.table ∙ (refused-keeps config b p.clock frame out k need (at_size ∙ a)).0;
          sound = still-sound;
        }

    pub frame-used : (st used len : ℕ) → eqb (24 + (header_of frame).body) (length frame) ≡ true → r.stop ≡ Done st used len → used ≡ length frame
    frame-used st used len f e =
        (was-sent config b p.clock frame out st used len n y (sym call.answer ∙ e)).consumed ∙ eqb-true (24 + (header_of frame).body) (length frame) f

    pub frame-served : (st used len : ℕ) → eqb (24 + (header_of frame).body) (length frame) ≡ true → r.stop ≡ Done st used len
        → FrameTurns config b frame out p (Ok (record { at = p.at + 3 + used; clock = p.clock; frames = p.frames + 1; filled = len })) b' out'
    frame-served st used len f e =
        let a : asked ≡ Done st used len = sym at_size ∙ (sym call.answer ∙ e) in
        let w = was-sent config b p.clock frame out st used len n y (at_size ∙ a) in
        let t : b' ≡ served_table config b p.clock frame 1302 = call.table ∙ ap (served_table config b p.clock frame) n in
        let m : part out' 0 len ≡ sent_reply config b p.clock frame = ap (λ (zs : List ℕ). part zs 0 len) call.reply ∙ w.reply in
        let one : is_one_frame asked (length frame) ≡ true = ap (λ (z : Served). is_one_frame z (length frame)) a ∙ (ap (λ (z : ℕ). eqb z (length frame)) w.consumed ∙ f) in
        let all = frame-used st used len f e in
        record {
          turn = (λ i. On (record { table = t i; clock = p.clock; frames = p.frames + 1; reply = m i })) ∙ sym (chosen one);
          leads = (omega (arith, all), omega arith);
          sound = still-sound;
        }
