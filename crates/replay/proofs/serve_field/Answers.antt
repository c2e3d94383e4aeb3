use native.Mathlib.Omega.{arith}
use mathlib.Core.Path.{sym, ap, ◌∙◌}
use Rattle.serving.specs.Serve.{served_told}
use Rattle.replay.proofs.Frames.{frame-cut, frame_refused, frame-used, frame-served}
use Rattle.replay.proofs.serve_field.Goals as goal

pub returns-then-not-is_one : goal.returns-then-not-is_one
returns-then-not-is_one c =
    let a = c.args in
    frame-cut a.config a.b.now a.frame.now a.out.now a.p c.requires.out_len.0 (λ k. (c.type_inv.b k).fits) c.requires.b_value
    (sym c.is_one.ensures ∙ c.if-not-is_one.true)

pub overflow_add-result : goal.overflow_add-result
overflow_add-result c = omega (arith, c.requires.out_len.1.1)

pub overflow_add-result-2 : goal.overflow_add-result-2
overflow_add-result-2 c =
    let a = c.args in
    let frames = c.serve_frames-ran.ensures.1 in
    let u = frame-used a.config a.b.now a.frame.now a.out.now a.p c.requires.out_len.0 (λ k. (c.slice_known-1.given k).fits) c.requires.b_value
    (λ k. (c.type_inv.frame k).fits) c.well_formed.1.1.1.1.0.1.1.1.0.1 _ _ _ _ frames
    _ _ _ (sym c.is_one.ensures ∙ c.if-not-is_one.false) (ap served_told c.in-Ok.is) in
    omega (arith, u, c.requires.out_len.1.1)

pub overflow_add-result-3 : goal.overflow_add-result-3
overflow_add-result-3 c =
    let p = c.requires in
    omega (arith, p.out_len.1.0, p.out_len.1.1)

pub returns-in_default : goal.returns-in_default
returns-in_default c =
    let a = c.args in
    let frames = c.serve_frames-ran.ensures.1 in
    frame_refused a.config a.b.now a.frame.now a.out.now a.p c.requires.out_len.0 (λ k. (c.slice_known-1.given k).fits) c.requires.b_value
    (λ k. (c.type_inv.frame k).fits) c.well_formed.1.1.1.1.0.1.1.1.0.1 _ _ _ _ frames _ _ (ap served_told c.in_default.is)

pub returns : goal.returns
returns c =
    let a = c.args in
    let frames = c.serve_frames-ran.ensures.1 in
    frame-served a.config a.b.now a.frame.now a.out.now a.p c.requires.out_len.0 (λ k. (c.slice_known-1.given k).fits) c.requires.b_value
    (λ k. (c.type_inv.frame k).fits) c.well_formed.1.1.1.1.0.1.1.1.0.1 _ _ _ _ frames
    _ _ _ (sym c.is_one.ensures ∙ c.if-not-is_one.false) (ap served_told c.in-Ok.is)
