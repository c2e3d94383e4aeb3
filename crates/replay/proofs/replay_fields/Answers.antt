use native.Mathlib.Omega.{arith}
use borrow.Author.Rules.{rules}
use mathlib.Core.Path.{◌≡◌, refl, sym, ap, ◌∙◌}
use Rattle.replay.specs.Replay.{error_told, ending_told}
use lib.ListN.{length, length-drop}
use Rattle.replay.proofs.Walking.{turned, turn_inside, walk_end, walk-on, walk_ends}
use Rattle.replay.proofs.replay_fields.Goals as goal

pub loop-p-init : goal.loop-p-init
loop-p-init c = let pre = c.requires in (refl, (refl, (pre.out_len.1.0, (omega arith, (refl, pre.b_value)))))

pub returns : goal.returns
returns c =
    let l = c.loop-p in
    let a = c.args in
    record { end = sym (walk_end a.config a.trace.now l.b l.out l.p c.loop-p-test.false) ∙ l.invariant.1.1.1.1.0 }

pub turn-requires : goal.turn-requires
turn-requires c =
    let l = c.loop-p in
    let n = ap length c.rest.ensures ∙ length-drop l.p.at c.args.trace.now in
    record {
      b_value = l.invariant.1.1.1.1.1;
      out_len = (l.invariant.1.0 ∙ c.requires.out_len.0, (l.invariant.1.1.1.0, omega (arith, n, c.requires.out_len.1.1, l.invariant.1.1.0)));
    }

pub loop-p-smaller : goal.loop-p-smaller
loop-p-smaller c =
    let l = c.loop-p in
    let a = c.args in
    let t = turned a.config a.trace.now l.b l.out l.p _ _ _ _ _ c.rest.ensures c.in_ok-p.was c.turn.ensures in
    let w = turn_inside a.config a.trace.now l.b l.out l.p c.loop-p-test.true _ _ _ t in
    omega (arith, w.0, w.1)

pub loop-p-preserved : goal.loop-p-preserved
loop-p-preserved c =
    let c16 = c in
    let l = c.loop-p in
    let a = c16.args in
    let t = turned a.config a.trace.now l.b l.out l.p _ _ _ _ _ c.rest.ensures c.in_ok-p.was c.turn.ensures in
    let w = turn_inside a.config a.trace.now l.b l.out l.p c.loop-p-test.true _ _ _ t in
    let on = walk-on a.config a.trace.now l.b l.out l.p c.loop-p-test.true _ _ _ t in (
      c.b-1.given ∙ l.invariant.0,
      (
        c.out-1.given ∙ l.invariant.1.0,
        (w.1, (omega (arith, t.leads.0, t.leads.1, l.invariant.1.1.1.0), (sym on ∙ l.invariant.1.1.1.1.0, t.sound))),
      ),
    )

pub returns-in_err-p : goal.returns-in_err-p
returns-in_err-p c =
    let l = c.loop-p in
    let a = c.args in
    let t = turned a.config a.trace.now l.b l.out l.p _ _ _ _ _ c.rest.ensures c.in_err-p.was c.turn.ensures in
    let told : ending_told c.from_residual.result ≡ error_told c.in_err-p.field-0.0 = search rules in
    record {
      end =
          (λ i. record { answer = told i; table = c.turn.new.b })
          ∙ walk_ends a.config a.trace.now l.b l.out l.p c.loop-p-test.true _ _ _ t
          ∙ l.invariant.1.1.1.1.0;
    }
