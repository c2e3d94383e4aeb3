use borrow.Author.Rules.{rules}
use lib.ListN.{length}
use mathlib.Core.Path.{refl, sym, ◌∙◌}
use Rattle.engines.proofs.Checks.{damaged-by, sound-by}
use Rattle.serve.proofs.Gates.{gate-damaged, gated}
use Rattle.serve.proofs.Stepping.{stepped}
use Rattle.serve.proofs.serve_one.Goals as goal

pub returns-in_err-head : goal.returns-in_err-head
returns-in_err-head c =
    let a = c.args in
    let b = a.b.now in
    let s = a.s.now in
    let out = a.out.now in
    let damaged = damaged-by a.config b (sym c.checked.ensures ∙ c.in_err-head.ensures.ok_part) in
    gated a.config b s out a.clock _ (gate-damaged a.config b s (length out) damaged) _ _ _ (search rules) refl refl

pub returns : goal.returns
returns c =
    let a = c.args in
    let sound = sound-by a.config _ _ (sym c.checked.ensures ∙ c.in_ok-head.ensures.ok_part) in
    stepped a.config a.b.now _ a.clock a.s.now a.out.now _ _ _ (λ i. (c.slice_known-1.given i).fits)
    (λ i. (c.type_inv.s i).fits) c.ranges.clock.fits sound.0 sound.1 c.step.ensures
