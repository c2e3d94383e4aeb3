-- What a step's answer tells, on any memory: a frame that was served stands in the received bytes and its reply in the reply area; a refused call leaves all
-- as it was.
use native.Mathlib.Omega.{arith}
use Prim.Native.Nat.{ℕ, ◌+◌, ◌≤◌}
use mathlib.Core.Path.{◌≡◌, refl}
use mathlib.Core.List.{List}
use lib.Dec.{ltb}
use lib.ListN.{length}
use borrow.Author.Tests.{ltb-false}
use Rattle.octets.proofs.Choices.{cases, cond-elim}
use Rattle.engine.specs.declared.Config.{Config}
use Rattle.header.specs.declared.Header.{Header}
use Rattle.request.proofs.Gated.{no_stop, whole-frame}
use Rattle.document.specs.declared.Head.{Head}
use Rattle.effects.specs.declared.Reply.{Reply}
use Rattle.effects.specs.declared.Reply.TheVariants.{Bare, Found, Counted, Version as VersionReply, Keys}
use Rattle.document.specs.Head.{at_clock}
use Rattle.commands.specs.declared.Instruction.{Instruction}
use Rattle.commands.specs.Writes.{is_mutation}
use Rattle.decision.specs.Decision.{Decision}
use Rattle.decision.specs.Decide.{instruction_of}
use Rattle.decode.specs.Decode.{bare_value}
use Rattle.request.specs.Reading.{Gate, Stop, Whole, bytes_in, key_span}
use Rattle.serving.specs.Serve.{Refused, Done, reaches_decision, asked_of}
use Rattle.serving.specs.Reply.{body_of}
use Rattle.table.specs.Calls.{lookup_of, keys_for}
use Rattle.reply.specs.Fitting.{unfit, fitting_reply}
use Rattle.reply.proofs.Replies.{body-most, bounds}
use Rattle.reply.proofs.Frames.{bytes_most}
use Rattle.step.specs.Answer.{reply_as, reply_to}
use Rattle.step.specs.Step.{value_found, decided_by, asked_step, frame_step, gate_step, step_of}
use Rattle.step.proofs.Answers.{keys-short}
use Rattle.step.proofs.Framed.{gate}

-- ---- a reply fits its room
fitting-most : (room op opaque : ℕ) (d : Decision) (key old : List ℕ) → length (fitting_reply room op opaque d key old) ≤ 1302
unfolding fitting_reply
fitting-most room op opaque d key old =
    cases (unfit room key old) (λ t. rw t (omega arith))
    (λ f. let p = bounds room key old f in rw f (bytes_most op opaque d key old (body-most d.done.reply key old p.1.0 p.1.1)))

reply-most : (r : Reply) (config : Config) (room : ℕ) (b : List ℕ) (clock : ℕ) (h : Header) (d : Decision) (key old : List ℕ) → d.done.reply ≡ r
    → length (reply_as r config room b clock h d key old) ≤ 1302
reply-most Bare config room b clock h d key old e = fitting-most room h.opcode h.opaque d key old
reply-most (Found flags keyed) config room b clock h d key old e = fitting-most room h.opcode h.opaque d key old
reply-most (Counted n) config room b clock h d key old e = fitting-most room h.opcode h.opaque d key old
reply-most VersionReply config room b clock h d key old e = fitting-most room h.opcode h.opaque d key old
reply-most (Keys count) config room b clock h d key old e =
    let short : length (body_of d.done.reply key (keys_for config room b clock key count)) ≤ 1278 = rw e (keys-short config room b clock key count) in
    bytes_most h.opcode h.opaque d key (keys_for config room b clock key count) short

module _ (config : Config) (b : List ℕ) (head : Head) (clock : ℕ) (s out : List ℕ) where
  pub record Told (used len : ℕ) : Type 0 where
    pub least : 24 ≤ used
    pub inside : used ≤ length s
    pub fits : len ≤ length out

  module _ (st used len : ℕ) where
    asked-told : (h : Header) (ask : Instruction) (key value : List ℕ) → (asked_step config b head clock h ask key value out).answer ≡ Done st used len
        → (24 + h.body ≡ used) × (len ≤ 1302)
    unfolding asked_step
    asked-told h ask key value e =
        let now = at_clock head clock in
        let l = lookup_of config (is_mutation ask.command) b key in
        let d = decided_by now now.clock l (value_found b l) ask in
        let n : length (reply_to config (length out) b now.clock h d key (value_found b l)) ≡ len = cc in
        let most = reply-most d.done.reply config (length out) b now.clock h d key (value_found b l) refl in
        (cc, omega (arith, n, most))

    frame-told : (h : Header) → 24 + h.body ≤ length s → 1302 ≤ length out → (frame_step config b head clock s h out).answer ≡ Done st used len → Told used len
    unfolding frame_step
    frame-told h inside roomy e =
        cases (reaches_decision s h)
        (λ g.
        let p = asked-told h (instruction_of (asked_of config s h)) (bytes_in s (key_span h)) (bare_value s h) (rw g at e) in
        record { least = omega (arith, p.0); inside = omega (arith, p.0); fits = omega (arith, p.1) })
        (λ g.
        let a = rw g at e in
        let u : 24 + h.body ≡ used = cc in
        let l : 24 ≡ len = cc in
        record { least = omega arith; inside = omega arith; fits = omega arith })

    by-gate : (g : Gate) → gate s out ≡ g → (gate_step config b head clock s out g).answer ≡ Done st used len → Told used len
    by-gate (Stop n need) q e = absurd (let y : ◌≡◌ {A = ℕ} 0 1 = cc in omega arith)
    by-gate (Whole h) q e =
        cond-elim (ltb (length out) 1302) _ _ _ q (λ t z. no_stop _ _ h z)
        (λ t z. frame-told h (whole-frame s h z).inside (ltb-false _ _ t) e)

    pub step-told : (step_of config b head clock s out).answer ≡ Done st used len → Told used len
    unfolding step_of
    step-told e = by-gate (gate s out) refl e

  -- ---- a refused call
  module _ (n need : ℕ) where
    frame-served {ℓ} : {X : Type ℓ} (h : Header) → (frame_step config b head clock s h out).answer ≡ Refused n need → X
    unfolding frame_step asked_step
    frame-served h e =
        cases (reaches_decision s h) (λ g. let a = rw g at e in absurd (let y : ◌≡◌ {A = ℕ} 0 1 = cc in omega arith))
        (λ g. let a = rw g at e in absurd (let y : ◌≡◌ {A = ℕ} 0 1 = cc in omega arith))

    left_by : (g : Gate) → (gate_step config b head clock s out g).answer ≡ Refused n need
        → ((gate_step config b head clock s out g).table ≡ b) × ((gate_step config b head clock s out g).reply ≡ out)
    left_by (Stop m more) e = (refl, refl)
    left_by (Whole h) e = frame-served h e

    pub step_left : (step_of config b head clock s out).answer ≡ Refused n need → ((step_of config b head clock s out).table ≡ b) × ((step_of config b head clock s out).reply ≡ out)
    unfolding step_of
    step_left e = left_by (gate s out) e
