-- Each field that goes on is one call of the list, or none; the field that ends a replay says why.
use native.Mathlib.Omega.{arith}
use Prim.Native.Nat.{ℕ, ◌+◌}
use mathlib.Core.Path.{◌≡◌, refl, sym, ap, subst, ◌∙◌}
use mathlib.Core.Bool.{true, false, cond, false≢true}
use mathlib.Core.List.{List, [], ◌∷◌, ◌++◌}
use Rattle.std.specs.Prelude.{Option, Some, None}
use lib.ListN.{length, replicate, length-replicate}
use lib.Dec.{eqb}
use borrow.Author.Tests.{eqb-true, ne_eqb, eq-eqb}
use Rattle.engine.specs.declared.Config.{Config}
use Rattle.octets.specs.Compare.{same}
use Rattle.octets.proofs.Choices.{cases}
use Rattle.octets.proofs.Tests.{same_true, same_refl}
use Rattle.rows.specs.Table.{table_bytes, fresh}
use Rattle.serving.specs.Serve.{Served, Refused, Done, served, served_table}
use Rattle.trace.specs.declared.Field.{Field}
use Rattle.trace.specs.declared.Field.TheVariants.{Clock, Frame, Reply, Purge as Purges, Rule}
use Rattle.trace.specs.Trace.{Placed, opening_of, fields_in}
use Rattle.replay.specs.Replay.{Ending, Differs, Stopped, Voyage, with_clock, with_frame, with_purge, is_one_frame, On, End, on_field, on_turn, After, walked, set_out, ruled_by, replayed}
use Rattle.replay.proofs.Frames.{was-sent}
use Rattle.promises.specs.Clock.{TableCall, memory_after, table_called}
use Rattle.voyages.specs.Serving.{clock_by, call_by, calls_of, frames_by, frames_in, last_by, OneFrame, LeadsOn, EndsAt, clock_past, last_after, ReplaysAs, SentIsReply}

pub after_both : (config : Config) (b : List ℕ) (xs ys : List TableCall) → memory_after config b (xs ++ ys) ≡ memory_after config (memory_after config b xs) ys
after_both config b [] ys = refl
after_both config b (x ∷ xs) ys = after_both config (table_called config b x) xs ys

-- ---- one field more
module _ (config : Config) (b : List ℕ) (clock : ℕ) (last : Option (List ℕ)) (n : ℕ) (p : Placed) (ps : List Placed) (e : After) where
  abbrev calls : List TableCall
  calls = call_by clock p.field p.bytes

  further : (m : ℕ) → LeadsOn config b clock last p.field p.bytes → m ≡ n + frames_by p.field
      → ReplaysAs config (memory_after config b calls) (clock_by clock p.field) (last_by config b clock last p.field p.bytes) m ps e
      → ReplaysAs config b clock last n (p ∷ ps) e
  further m g k r =
      let more = calls_of (clock_by clock p.field) r.done in
      let after : memory_after config (memory_after config b calls) more ≡ memory_after config b (calls ++ more) = sym (after_both config b calls more) in
      let count : m + frames_in r.done ≡ n + (frames_by p.field + frames_in r.done) = omega (arith, k) in
      let past = clock_past (clock_by clock p.field) r.done in
      let sent = last_after config (memory_after config b calls) (clock_by clock p.field) (last_by config b clock last p.field p.bytes) r.done in
      record {
        done = p ∷ r.done;
        rest = r.rest;
        split = ap (λ (xs : List Placed). p ∷ xs) r.split;
        goes = (g, r.goes);
        table = r.table ∙ after;
        ends = subst (λ (t : List ℕ). EndsAt config t past sent (n + (frames_by p.field + frames_in r.done)) r.rest e.answer) after
            (subst (λ (k : ℕ). EndsAt config (memory_after config (memory_after config b calls) more) past sent k r.rest e.answer) count r.ends);
      }

-- ---- by the field
-- the last reply is there once a frame was served
abbrev pub Agrees : Voyage → Option (List ℕ) → Type 0
Agrees v last = last ≡ cond (eqb v.frames 0) None (Some v.reply)

module _ (config : Config) (b : List ℕ) (clock : ℕ) (bytes : List ℕ) (len : ℕ) where
  one-frame : (r : Served) → served config b clock bytes 1302 ≡ r → is_one_frame r len ≡ true → OneFrame config b clock bytes len
  one-frame (Refused n need) e t = absurd (false≢true t)
  one-frame (Done st used sent) e t = record { status = st; sent = sent; answer = e ∙ ap (λ (k : ℕ). Done st k sent) (eqb-true used len t) }

  no-frame : is_one_frame (served config b clock bytes 1302) len ≡ false → OneFrame config b clock bytes len → ⊥
  no-frame f o = false≢true (sym f ∙ (ap (λ (r : Served). is_one_frame r len) o.answer ∙ eq-eqb len len refl))

module _ (config : Config) (v : Voyage) (last : Option (List ℕ)) (a : Agrees v last) (at : ℕ) (bytes : List ℕ) (ps : List Placed)
    (rest : (w : Voyage) (next : Option (List ℕ)) → Agrees w next → ReplaysAs config w.table w.clock next w.frames ps (walked config w ps)) where
  abbrev field : Option Field → Placed
  field f = record { at = at; field = f; bytes = bytes }

  abbrev By : Option Field → After → Type 0
  By f e = ReplaysAs config v.table v.clock last v.frames (field f ∷ ps) e

  -- the replay ends at this field
  here : (f : Option Field) (r : Ending) → EndsAt config v.table v.clock last (v.frames + 0) (field f ∷ ps) r → By f (record { answer = r; table = v.table })
  here f r e = record { done = []; rest = field f ∷ ps; split = refl; goes = tt; table = refl; ends = e }

  serves : (len : ℕ) → is_one_frame (served config v.table v.clock bytes 1302) len ≡ true → By (Some (Frame len)) (walked config (with_frame config bytes v) ps)
  serves len t =
      let w = with_frame config bytes v in
      let started : eqb (v.frames + 1) 0 ≡ false = ne_eqb (v.frames + 1) 0 (λ z. omega (arith, z)) in
      let r = rest w (Some w.reply) (rw started refl) in
      let size : 1302 ≡ length (replicate {A = ℕ} 1302 0) = sym (length-replicate {A = ℕ} 1302 0) in
      further config v.table v.clock last v.frames (field (Some (Frame len))) ps (walked config w ps) (v.frames + 1)
      (one-frame config v.table v.clock bytes len (served config v.table v.clock bytes 1302) refl t) refl
      (subst (λ (k : ℕ). ReplaysAs config (served_table config v.table v.clock bytes k) v.clock (Some w.reply) (v.frames + 1) ps (walked config w ps)) size r)

  compares : (len : ℕ) → eqb v.frames 0 ≡ false
      → By (Some (Reply len)) (on_turn v (cond (same bytes v.reply) (On v) (End (Differs at))) (λ w. walked config w ps))
  compares len f =
      let sent : last ≡ Some v.reply = a ∙ rw f refl in
      cases (same bytes v.reply)
      (λ t. rw t (further config v.table v.clock last v.frames (field (Some (Reply len))) ps (walked config v ps) v.frames
      (sent ∙ ap Some (sym (same_true bytes v.reply t))) (omega arith) (rest v last a)))
      (λ t. rw t (here (Some (Reply len)) (Differs at) (refl, (v.reply, (sent, λ e. false≢true (sym t ∙ (ap (same bytes) e ∙ same_refl bytes)))))))

  turn : (f : Option Field) → By f (on_turn v (on_field config at v f bytes) (λ w. walked config w ps))
  turn (Some (Clock n)) = further config v.table v.clock last v.frames (field (Some (Clock n))) ps (walked config (with_clock n v) ps) v.frames tt (omega arith) (rest (with_clock n v) last a)
  turn (Some (Frame len)) =
      cases (is_one_frame (served config v.table v.clock bytes 1302) len)
      (λ t. rw t (serves len t))
      (λ t. rw t (here (Some (Frame len)) (Stopped at) (refl, no-frame config v.table v.clock bytes len t)))
  turn (Some (Reply len)) =
      cases (eqb v.frames 0) (λ t. rw t (here (Some (Reply len)) (Stopped at) (refl, a ∙ rw t refl))) (λ t. rw t (compares len t))
  turn (Some (Purges bound)) =
      further config v.table v.clock last v.frames (field (Some (Purges bound))) ps (walked config (with_purge config bound.0 v) ps) v.frames tt (omega arith)
      (rest (with_purge config bound.0 v) last a)
  turn (Some (Rule forcing)) = further config v.table v.clock last v.frames (field (Some (Rule forcing))) ps (walked config v ps) v.frames tt (omega arith) (rest v last a)
  turn None = here None (Stopped at) (refl, tt)

replays : (config : Config) (v : Voyage) (last : Option (List ℕ)) (ps : List Placed) → Agrees v last → ReplaysAs config v.table v.clock last v.frames ps (walked config v ps)
replays config v last [] a = record { done = []; rest = []; split = refl; goes = tt; table = refl; ends = omega arith }
replays config v last (p ∷ ps) a = turn config v last a p.at p.bytes ps (λ w next b. replays config w next ps b) p.field

-- a trace that has opened
pub opened-serves : (config : Config) (b trace : List ℕ) (mode vbucket : ℕ) → length b ≡ 42000 → opening_of trace ≡ Some (record { mode = mode; vbucket = vbucket })
    → ReplaysAs (ruled_by config trace) (table_bytes (fresh 32 1 mode vbucket)) 0 None 0 (fields_in trace) (replayed config b trace)
unfolding replayed
opened-serves config b trace mode vbucket n e =
    rw (eq-eqb (length b) 42000 n, e) (replays (ruled_by config trace) (set_out mode vbucket) None (fields_in trace) refl)

pub sent-is-reply : (config : Config) → SentIsReply config
sent-is-reply config b clock s out st used len y n e = sym (was-sent config b clock s out st used len n y e).reply
