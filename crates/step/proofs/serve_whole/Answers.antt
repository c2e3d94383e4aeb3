use Rattle.outcome.proofs.StatusLaws.{no-success}
use Rattle.step.proofs.Framed.{frame_refused}
use Rattle.step.proofs.Parts.{other-status, other-stops}
use Rattle.rules.specs.Rules.{form_status}
use Rattle.outcome.specs.Outcome.{status_of}
use Rattle.shape.specs.Shapes.{Shape, shape_of}
use mathlib.Core.Path.{◌≡◌, sym, ap, ◌∙◌}
use Rattle.step.proofs.serve_whole.Goals as goal

pub serve_parts-requires : goal.serve_parts-requires
serve_parts-requires c =
    let p = c.requires in
    record { in_bounds = p.0; shape_value = (c.shape_of-shape.ensures, (sym c.form_status.ensures ∙ ap status_of c.in-Ok.is, p.1)) }

pub returns-in-Ok : goal.returns-in-Ok
returns-in-Ok c = c.serve_parts.ensures

pub returns-in-Err : goal.returns-in-Err
returns-in-Err c =
    let s = c.args.s.now in
    let h = c.args.h in
    let e = sym (ap status_of c.in-Err.is) ∙ c.form_status.ensures ∙ ap (λ (x : Shape). form_status x h) c.shape_of-shape.ensures in
    let z : form_status (shape_of h.opcode) h ≡ 0 → ⊥ = λ q. no-success c.in-Err.status (e ∙ q) in
    frame_refused c.args.config c.args.b.now c.args.head c.args.clock s h c.args.out.now _ _ _ _
    (other-stops s h z) (e ∙ other-status s h z) c.refused.ensures
