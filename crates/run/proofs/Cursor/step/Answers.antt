use Rattle.run.proofs.Laws.{used-fits, moved-eq, moved-damaged}
use Rattle.run.proofs.Framing.{one_left}
use mathlib.Core.Path.{ap, sym, ◌∙◌}
use native.Mathlib.Omega.{arith}
use lib.ListN.{length, length-drop}
use Prim.Native.Nat.{◌≤◌}
use Rattle.run.proofs.Cursor.step.Goals as goal

pub returns-then-not-is_sound : goal.returns-then-not-is_sound
returns-then-not-is_sound c =
    let a = c.args in
    moved-damaged a.config a.self a.b.now a.clock a.run.now a.out.now (sym c.is_sound.ensures ∙ c.if-not-is_sound.true)

pub overflow_add-result : goal.overflow_add-result
overflow_add-result c =
    let a = c.args in
    let rest = c.rest-seen in
    let sound = sym c.is_sound.ensures ∙ c.if-not-is_sound.false in
    let one = one_left a.config a.clock rest.result.now a.b.now a.out.now _ _ _ _ (c.serve_frames-ran.ensures.1 sound) in
    let l = ap length rest.ensures in
    let v : c.serve_frames-ran.result.cursor.at ≤ length rest.result.now = rw (one.at, one.serves.answer) (used-fits _ _ _ _ _) in
    omega (arith, length-drop a.self.at a.run.now, c.well_formed.1.1.1.1.0)

pub returns : goal.returns
returns c =
    let a = c.args in
    let rest = c.rest-seen in
    let sound = sym c.is_sound.ensures ∙ c.if-not-is_sound.false in
    let one = one_left a.config a.clock rest.result.now a.b.now a.out.now _ _ _ _ (c.serve_frames-ran.ensures.1 sound) in
    moved-eq _ _ _ _ _ _ _ _ _ _ _ rest.ensures one.at one.serves
