-- `serve_held` serves what is held as a run, hands its replies on, and holds what no frame consumed.
use native.Mathlib.Omega.{arith}
use Prim.Native.Nat.{ℕ, ◌-◌}
use mathlib.Core.Bool.{Bool, cond}
use mathlib.Core.List.{List}
use mathlib.Core.Path.{◌≡◌, refl, sym, ap, subst, ◌∙◌}
use lib.ListN.{length, take, drop}
use Rattle.std.specs.Prelude.{IsTrue}
use Rattle.std.specs.declared.option.Option.{Option}
use Rattle.std.specs.Io.KnownBytes.{Appends}
use Rattle.octets.specs.Parts.{part}
use Rattle.engine.specs.declared.Config.{Config}
use Rattle.tally.specs.declared.Tally.{Tally}
use Rattle.run.specs.Run.{Ran, ran_told, called_on, begun, run_end, ran_of}
use Rattle.contact_box.specs.declared.session.Held.{Held}
use Rattle.contact_box.specs.declared.session.Next.{Next}
use Rattle.contact_box.specs.declared.session.Next.TheVariants.{Close}
use Rattle.contact_box.specs.declared.session.Session.{Session}
use Rattle.contact_box.specs.Session.{held_of, past, next_of, Waits, Goes, SendsAll}
use Rattle.contact_box.proofs.Holding.{held-past, past_fits, ran-inside}
use Rattle.contact_box.proofs.Waiting.{waits}
use Rattle.contact_box.proofs.session.serve_held.Goals as goal

goes : (config : Config) (clock : ℕ) (b b' s run out : List ℕ) (x : Session) (r : Ran) (h : Held) (next : Next) (written : Bool)
    → run ≡ held_of x.held s → r ≡ ran_of config clock run (run_end config clock run (begun b out x.tally)) → b' ≡ (run_end config clock run (begun b out x.tally)).table
    → h ≡ past x.held r.cursor.at → next ≡ cond written (next_of r.stop) Close
    → Goes (run_end config clock (held_of x.held s) (begun b out x.tally)) b' s x (record { held = h; tally = r.tally; next = next; recorder = x.recorder })
unfolding ran_of
goes config clock b b' s run out x r h next written e q w l f =
    let y = held_of x.held s in
    let z = run_end config clock y (begun b out x.tally) in
    let p : r ≡ ran_of config clock y z = q ∙ ap (λ (v : List ℕ). ran_of config clock v (run_end config clock v (begun b out x.tally))) e in
    let left : h ≡ past x.held z.at = l ∙ ap (λ (v : Ran). past x.held v.cursor.at) p in
    let kept : held_of h s ≡ drop z.at y = ap (λ (v : Held). held_of v s) left ∙ held-past x.held s z.at in
    let on : next ≡ cond written (next_of (called_on config clock y z)) Close = f ∙ ap (λ (v : Ran). cond written (next_of v.stop) Close) p in
    record {
      stored = w ∙ ap (λ (v : List ℕ). (run_end config clock v (begun b out x.tally)).table) e;
      counted = ap (λ (v : Ran). v.tally) p;
      recorded = refl;
      left = left;
      kept = kept;
      waits =
          subst (λ (v : Next). Waits v (held_of h s)) (sym on)
          (subst (Waits (cond written (next_of (called_on config clock y z)) Close)) (sym kept) (waits config z.table clock (drop z.at y) (length z.reply - z.filled) written));
    }

sends : (config : Config) (clock : ℕ) (b out run y out' p : List ℕ) (t : Tally) (r : Ran) (next : Next) (written : Bool) (old new : Option (List ℕ)) → run ≡ y
    → r ≡ ran_of config clock run (run_end config clock run (begun b out t)) → out' ≡ (run_end config clock run (begun b out t)).reply → p ≡ part out' 0 r.filled
    → next ≡ cond written (next_of r.stop) Close → (IsTrue written → Appends old new p) → SendsAll config clock y (run_end config clock y (begun b out t)) old new next
unfolding ran_of
sends config clock b out run y out' p t r next written old new e q w u f h =
    let z = run_end config clock run (begun b out t) in
    let filled : r.filled ≡ z.filled = ap (λ (v : Ran). v.filled) q in
    let all : p ≡ take z.filled z.reply = u ∙ (λ i. take (filled i) (w i)) in
    subst (λ (v : List ℕ). SendsAll config clock v (run_end config clock v (begun b out t)) old new next) e
    record {
      written = written;
      goes = f ∙ ap (λ (v : Ran). cond written (next_of v.stop) Close) q;
      sent = λ t. subst (Appends old new) all (h t);
    }

pub past-requires : goal.past-requires
past-requires g c =
    let a = c.args in
    let run = c.held_of-run in
    past_fits a.s.held a.received.now c.serve_run-ran.result.cursor.at run.result.now run.ensures
    (ran-inside a.config a.clock run.result.now a.table.now a.replies.now a.s.tally (ran_told c.serve_run-ran.result) c.serve_run-ran.ensures.0)
    (omega arith) (omega arith)

pub returns-clause-goes : goal.returns-clause-goes
returns-clause-goes g c =
    let a = c.args in
    goes a.config a.clock a.table.now _ a.received.now c.held_of-run.result.now a.replies.now a.s (ran_told c.serve_run-ran.result) c.past.result c.next_after.result
    c.all-written.result c.held_of-run.ensures c.serve_run-ran.ensures.0 c.serve_run-ran.ensures.1.0 c.past.ensures c.next_after.ensures

pub returns-clause-sent : goal.returns-clause-sent
returns-clause-sent g c =
    let a = c.args in
    sends a.config a.clock a.table.now a.replies.now c.held_of-run.result.now (held_of a.s.held a.received.now) _ c.part.result.now a.s.tally (ran_told c.serve_run-ran.result)
    c.next_after.result c.all-written.result _ _ c.held_of-run.ensures c.serve_run-ran.ensures.0 c.serve_run-ran.ensures.1.1 c.part.ensures c.next_after.ensures
    c.all-written.ensures
