-- What the callees of a step say, as what a step means: all their equations in, the answer, the memory and the reply area out.
use Prim.Native.Nat.{ℕ, ◌+◌, ◌≤◌, ◌<◌}
use mathlib.Core.Path.{◌≡◌, sym, ap, subst, ◌∙◌}
use mathlib.Core.Bool.{Bool, true, false, cond}
use mathlib.Core.List.{List}
use lib.Dec.{ltb}
use lib.ListN.{length}
use borrow.Author.Tests.{lt-ltb, le-ltb}
use Rattle.engine.specs.declared.Config.{Config}
use Rattle.octets.specs.Parts.{written}
use Rattle.header.specs.declared.Header.{Header}
use Rattle.request.specs.Reading.{Gate, Stop, gate_of, bytes_in, key_span, frame_status}
use Rattle.document.specs.declared.Head.{Head}
use Rattle.document.specs.Head.{at_clock}
use Rattle.commands.specs.declared.Instruction.{Instruction}
use Rattle.commands.specs.Writes.{is_mutation}
use Rattle.decision.specs.Decision.{Decision}
use Rattle.decision.specs.Decide.{instruction_of}
use Rattle.decode.specs.Decode.{bare_value}
use Rattle.table.specs.declared.Lookup.{Lookup}
use Rattle.table.specs.Calls.{lookup_of}
use Rattle.serving.specs.Serve.{Served, Done, reaches_decision, asked_of}
use Rattle.step.specs.Answer.{reply_to, ReplyWritten}
use Rattle.step.specs.Change.{changed_by}
use Rattle.step.specs.Step.{Stepped, Steps, refused_step, value_found, decided_by, asked_step, frame_step, gate_step, step_of}

steps-as : {x y : Stepped} {r : Served} {b out : List ℕ} → x ≡ y → Steps x r b out → Steps y r b out
steps-as {x} {y} {r} {b} {out} e q = subst (λ (z : Stepped). Steps z r b out) e q

-- ---- an instruction for a key
module _ (config : Config) (b : List ℕ) (head : Head) (clock : ℕ) (h : Header) (ask : Instruction) (key value out : List ℕ) where
  abbrev made : Lookup → List ℕ → Head → Decision → List ℕ → Stepped
  made l old now d v = record {
    answer = Done d.status (24 + h.body) (length (reply_to config (length out) b now.clock h d key old));
    table = changed_by config b l key d.done v;
    reply = written out 0 (reply_to config (length out) b now.clock h d key old);
  }

  abbrev decided : Lookup → List ℕ → Head → List ℕ → Stepped
  decided l old now v = made l old now (decided_by now now.clock l old ask) v

  abbrev found : Lookup → Head → List ℕ → Stepped
  found l now v = decided l (value_found b l) now v

  module _ (w : Bool) (l : Lookup) (old : List ℕ) (now : Head) (d : Decision) (v : List ℕ) (ew : w ≡ is_mutation ask.command) (el : l ≡ lookup_of config w b key)
      (eo : old ≡ value_found b l) (eh : now ≡ at_clock head clock) (ed : d ≡ decided_by now now.clock l old ask) (ev : v ≡ value) where
    asked_is : made l old now d v ≡ asked_step config b head clock h ask key value out
    unfolding asked_step
    asked_is =
        (λ i. made l old now (ed i) v) ∙ (λ i. decided l (eo i) now v) ∙ (λ i. found (el i) (eh i) (ev i))
        ∙ (λ i. found (lookup_of config (ew i) b key) (at_clock head clock) value)

    pub asked_by : (r : Served) (n : ℕ) (b' out' : List ℕ) → ReplyWritten (reply_to config (length out) b now.clock h d key old) out n out'
        → r ≡ Done d.status (24 + h.body) n → b' ≡ changed_by config b l key d.done v
        → Steps (asked_step config b head clock h ask key value out) r b' out'
    asked_by r n b' out' reply er eb =
        steps-as asked_is (record { answer = er ∙ ap (Done d.status (24 + h.body)) reply.size; table = eb; reply = reply.bytes })

-- ---- a whole frame
module _ (config : Config) (b : List ℕ) (head : Head) (clock : ℕ) (s : List ℕ) (h : Header) (out : List ℕ) (r : Served) (b' out' : List ℕ) where
  pub frame_refused : (status : ℕ) → reaches_decision s h ≡ false → status ≡ frame_status s h → Steps (refused_step b head clock h out status) r b' out'
      → Steps (frame_step config b head clock s h out) r b' out'
  unfolding frame_step
  frame_refused status g e q = rw g (steps-as (ap (refused_step b head clock h out) e) q)

  pub frame-asked : (ask : Instruction) (key value : List ℕ) → reaches_decision s h ≡ true → ask ≡ instruction_of (asked_of config s h) → key ≡ bytes_in s (key_span h) → value ≡ bare_value s h
      → Steps (asked_step config b head clock h ask key value out) r b' out' → Steps (frame_step config b head clock s h out) r b' out'
  unfolding frame_step
  frame-asked ask key value g ea ek ev q = rw g (steps-as (λ i. asked_step config b head clock h (ea i) (ek i) (ev i) out) q)

-- ---- the gate
module _ (s out : List ℕ) where
  -- "4 reply room under 1,302 bytes", then the frame's own
  abbrev pub gate : Gate
  gate = cond (ltb (length out) 1302) (Stop 4 0) (gate_of s)

  pub gate-room : length out < 1302 → gate ≡ Stop 4 0
  gate-room l = rw (lt-ltb (length out) 1302 l)

  pub gate-open : 1302 ≤ length out → gate ≡ gate_of s
  gate-open l = rw (le-ltb (length out) 1302 l)

pub gated : (config : Config) (b : List ℕ) (head : Head) (clock : ℕ) (s out : List ℕ) (g : Gate) → gate s out ≡ g
    → (r : Served) (b' out' : List ℕ) → Steps (gate_step config b head clock s out g) r b' out' → Steps (step_of config b head clock s out) r b' out'
unfolding step_of
gated config b head clock s out g e r b' out' q = steps-as (ap (gate_step config b head clock s out) (sym e)) q
