use mathlib.Core.Path.{sym, ◌∙◌}
use Rattle.run.proofs.Runs.{run-damaged}
use Rattle.run.proofs.Framing.{run-left}
use Rattle.run.proofs.serve_run.Goals as goal

pub returns-then-not-is_sound : goal.returns-then-not-is_sound
returns-then-not-is_sound c =
    let a = c.args in
    run-damaged a.config a.clock a.run.now a.b.now a.out.now a.t (sym c.is_sound.ensures ∙ c.if-not-is_sound.true)

pub returns : goal.returns
returns c =
    let a = c.args in
    let sound = sym c.is_sound.ensures ∙ c.if-not-is_sound.false in
    run-left a.config a.clock a.run.now a.b.now a.out.now a.t _ _ _ (c.serve_frames.ensures.1 sound)
