use Rattle.ordered_lookup.specs.Halving.{middle}
use Rattle.ordered_lookup.proofs.HalvingLaws.{side_at, side-read, halving-start, halved-less, halved-equal, halved-greater, halved-end}
use native.Mathlib.Omega.{arith}
use mathlib.Core.Path.{sym, ◌∙◌}
use Rattle.ordered_lookup.proofs.key_place.Goals as goal

pub loop-lo-init : goal.loop-lo-init
loop-lo-init c = (omega arith, halving-start c.args.rows.now c.args.key.now)

pub loop-lo-preserved-in-Less : goal.loop-lo-preserved-in-Less
loop-lo-preserved-in-Less c =
    let a = c.args in
    let p = c.loop-lo in
    let side = side_at a.rows.now a.key.now in
    let e = c.row_side.ensures ∙ side-read a.rows.now a.key.now (middle p.lo p.hi) in
    (p.invariant.0, p.invariant.1 ∙ halved-less side p.lo p.hi c.loop-lo-test.true c.row_side.result e c.in-Less.is)

pub returns-in-Equal : goal.returns-in-Equal
returns-in-Equal c =
    let a = c.args in
    let p = c.loop-lo in
    let side = side_at a.rows.now a.key.now in
    let e = c.row_side.ensures ∙ side-read a.rows.now a.key.now (middle p.lo p.hi) in
    sym (p.invariant.1 ∙ halved-equal side p.lo p.hi c.loop-lo-test.true c.row_side.result e c.in-Equal.is)

pub loop-lo-preserved : goal.loop-lo-preserved
loop-lo-preserved c =
    let a = c.args in
    let p = c.loop-lo in
    let side = side_at a.rows.now a.key.now in
    let e = c.row_side.ensures ∙ side-read a.rows.now a.key.now (middle p.lo p.hi) in
    (omega arith, p.invariant.1 ∙ halved-greater side p.lo p.hi c.loop-lo-test.true c.row_side.result e c.in-Greater.is)

pub returns : goal.returns
returns c =
    let a = c.args in
    let p = c.loop-lo in
    let side = side_at a.rows.now a.key.now in
    sym (p.invariant.1 ∙ halved-end side p.lo p.hi c.loop-lo-test.false)
