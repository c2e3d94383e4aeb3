use native.Mathlib.Omega.{arith}
use mathlib.Core.Path.{sym, ap, ◌∙◌}
use Rattle.shape.specs.Shapes.{Shape}
use Rattle.rules.specs.Rules.{form_status}
use Rattle.step.proofs.Framed.{frame_refused, frame-asked}
use Rattle.step.proofs.Parts.{within, extras-cut, key-cut, value-cut, broken-status, broken-stops, whole-goes, whole-ask, whole-value}
use Rattle.step.proofs.serve_parts.Goals as goal

pub slice_bounds-extras-count : goal.slice_bounds-extras-count
slice_bounds-extras-count c =
    let w = within _ _ _ _ c.layout_of-l.ensures c.requires.shape_value.1.0 c.requires.shape_value.1.1 in
    w.extras

pub slice_bounds-extras-start : goal.slice_bounds-extras-start
slice_bounds-extras-start c =
    let w = within _ _ _ _ c.layout_of-l.ensures c.requires.shape_value.1.0 c.requires.shape_value.1.1 in
    w.extras

pub slice_bounds-extras-end : goal.slice_bounds-extras-end
slice_bounds-extras-end c =
    let w = within _ _ _ _ c.layout_of-l.ensures c.requires.shape_value.1.0 c.requires.shape_value.1.1 in
    omega (arith, w.key, w.value, w.end)

pub slice_bounds-key-count : goal.slice_bounds-key-count
slice_bounds-key-count c =
    let w = within _ _ _ _ c.layout_of-l.ensures c.requires.shape_value.1.0 c.requires.shape_value.1.1 in
    w.key

pub slice_bounds-key-start : goal.slice_bounds-key-start
slice_bounds-key-start c =
    let w = within _ _ _ _ c.layout_of-l.ensures c.requires.shape_value.1.0 c.requires.shape_value.1.1 in
    w.key

pub slice_bounds-key-end : goal.slice_bounds-key-end
slice_bounds-key-end c =
    let w = within _ _ _ _ c.layout_of-l.ensures c.requires.shape_value.1.0 c.requires.shape_value.1.1 in
    omega (arith, w.value, w.end)

pub slice_bounds-value-count : goal.slice_bounds-value-count
slice_bounds-value-count c =
    let w = within _ _ _ _ c.layout_of-l.ensures c.requires.shape_value.1.0 c.requires.shape_value.1.1 in
    w.value

pub slice_bounds-value-start : goal.slice_bounds-value-start
slice_bounds-value-start c =
    let w = within _ _ _ _ c.layout_of-l.ensures c.requires.shape_value.1.0 c.requires.shape_value.1.1 in
    w.value

pub slice_bounds-value-end : goal.slice_bounds-value-end
slice_bounds-value-end c =
    let w = within _ _ _ _ c.layout_of-l.ensures c.requires.shape_value.1.0 c.requires.shape_value.1.1 in
    w.end

pub returns-in-None : goal.returns-in-None
returns-in-None c =
    let s = c.args.s.now in
    let h = c.args.h in
    let l = c.layout_of-l in
    let form = sym (ap (λ (x : Shape). form_status x h) c.requires.shape_value.0) ∙ c.requires.shape_value.1.0 in
    let whole = c.requires.shape_value.1.1 in
    let extras = extras-cut s h l.result l.ensures in
    let value = value-cut s h l.result l.ensures in
    let decoded = c.decoded_by.ensures in
    let told = c.in-None.is in
    frame_refused c.args.config c.args.b.now c.args.head c.args.clock s h c.args.out.now _ _ _ 0x04
    (broken-stops s h whole form _ _ _ _ _ c.requires.shape_value.0 extras value decoded told) (broken-status s h whole form _ _ _ _ _ c.requires.shape_value.0 extras value decoded told)
    c.refused.ensures

pub returns-in-Some : goal.returns-in-Some
returns-in-Some c =
    let s = c.args.s.now in
    let h = c.args.h in
    let l = c.layout_of-l in
    let form = sym (ap (λ (x : Shape). form_status x h) c.requires.shape_value.0) ∙ c.requires.shape_value.1.0 in
    let whole = c.requires.shape_value.1.1 in
    let extras = extras-cut s h l.result l.ensures in
    let value = value-cut s h l.result l.ensures in
    let decoded = c.decoded_by.ensures in
    let ask = c.in-Some.is in
    frame-asked c.args.config c.args.b.now c.args.head c.args.clock s h c.args.out.now _ _ _ _ _ _
    (whole-goes s h whole form _ _ _ _ _ c.requires.shape_value.0 extras value decoded _ ask) (whole-ask s h whole form _ _ _ _ _ c.requires.shape_value.0 extras value decoded _ ask)
    (key-cut s h l.result l.ensures) (whole-value s h whole form _ _ _ _ _ c.requires.shape_value.0 extras value decoded _ ask) c.serve_asked.ensures
