use native.Mathlib.Omega.{arith}
use Prim.Native.Nat.{suc, ◌-◌}
use mathlib.Core.Path.{◌≡◌, refl, sym, ap, ◌∙◌}
use Rattle.serving.specs.Serve.{served_told}
use lib.ListN.{length-drop}
use Rattle.octets.specs.Parts.{Bytes}
use Rattle.run.specs.Frames.{step_at, serve_at}
use Rattle.run.proofs.Framing.{turn-steps, turn-told, turn-serves, turn-sound, turn_on, turn-lasts, turn-ends}
use Rattle.run.proofs.serve_frames.Goals as goal

pub loop-frame-init : goal.loop-frame-init
loop-frame-init c = (refl, (refl, (omega arith, (omega arith, (λ k. (c.type_inv.b k).fits, (refl, λ sound. (sound, refl)))))))

pub slice_bounds-step-count : goal.slice_bounds-step-count
slice_bounds-step-count c = c.loop-frame.invariant.1.1.1.0

pub overflow_add-cursor : goal.overflow_add-cursor
overflow_add-cursor c =
    let a = c.args in
    let l = c.loop-frame in
    let eh = c.head-head.ensures in
    let es = c.rest-seen.ensures in
    let q = c.step-stop.ensures in
    let w = turn-told a.config a.clock a.run.now l.b l.out l.tally l.cursor.at l.filled _ _ _ _ _ eh es q _ _ _ (ap served_told c.in-Ok.is) in
    omega (arith, w.inside, length-drop l.cursor.at a.run.now, l.invariant.1.1.0, c.well_formed.1.1.1.0)

pub overflow_add-filled : goal.overflow_add-filled
overflow_add-filled c =
    let a = c.args in
    let l = c.loop-frame in
    let eh = c.head-head.ensures in
    let es = c.rest-seen.ensures in
    let q = c.step-stop.ensures in
    let w = turn-told a.config a.clock a.run.now l.b l.out l.tally l.cursor.at l.filled _ _ _ _ _ eh es q _ _ _ (ap served_told c.in-Ok.is) in
    omega (arith, w.fits, length-drop l.filled l.out, l.invariant.1.1.1.0, l.invariant.1.0, c.well_formed.1.1.1.1.0)

pub shape_of-b-then-left-eq0 : goal.shape_of-b-then-left-eq0
shape_of-b-then-left-eq0 c =
    c.b-1.given ∙ c.loop-frame.invariant.0

pub shape_of-out-then-left-eq0 : goal.shape_of-out-then-left-eq0
shape_of-out-then-left-eq0 c =
    c.out-1.given.1 ∙ c.loop-frame.invariant.1.0

pub returns-then-left-eq0 : goal.returns-then-left-eq0
returns-then-left-eq0 c =
    let a = c.args in
    let l = c.loop-frame in
    let eh = c.head-head.ensures in
    let es = c.rest-seen.ensures in
    let q = c.step-stop.ensures in
    let step = step_at a.config a.clock a.run.now in
    let serve = serve_at a.config a.clock a.run.now in
    let steps = turn-steps a.config a.clock a.run.now l.b l.out l.tally l.cursor.at l.filled _ _ _ _ _ eh es q in
    let d = (ap served_told c.in-Ok.is) in
    let counted = c.counted-tally.ensures in
    let z : Bytes a.run.now = λ k. (c.type_inv.run k).fits in (
      turn-lasts a.config a.clock a.run.now l.b l.out l.tally l.cursor.at l.filled _ _ _ _ _ eh es q
          step steps _ _ _ _ c.if-left-eq0.true d _ counted _ l.invariant.1.1.1.1.1.0,
      λ sound.
          let s = l.invariant.1.1.1.1.1.1 sound in
          let served = turn-serves a.config a.clock a.run.now l.b l.out l.tally l.cursor.at l.filled _ _ _ _ _ eh es q
          l.invariant.1.1.1.1.0 z c.ranges.clock.fits s.0 in
          turn-lasts a.config a.clock a.run.now l.b l.out l.tally l.cursor.at l.filled _ _ _ _ _ eh es q
          serve served
          _ _ _ _ c.if-left-eq0.true d _ counted _ s.1,
    )

pub overflow_sub-left : goal.overflow_sub-left
overflow_sub-left c = omega (arith, c.if-left-eq0.false)

pub loop-frame-smaller : goal.loop-frame-smaller
loop-frame-smaller c = omega (arith, c.if-left-eq0.false)

pub loop-frame-preserved : goal.loop-frame-preserved
loop-frame-preserved c =
    let a = c.args in
    let l = c.loop-frame in
    let eh = c.head-head.ensures in
    let es = c.rest-seen.ensures in
    let q = c.step-stop.ensures in
    let step = step_at a.config a.clock a.run.now in
    let serve = serve_at a.config a.clock a.run.now in
    let steps = turn-steps a.config a.clock a.run.now l.b l.out l.tally l.cursor.at l.filled _ _ _ _ _ eh es q in
    let d = (ap served_told c.in-Ok.is) in
    let counted = c.counted-tally.ensures in
    let w = turn-told a.config a.clock a.run.now l.b l.out l.tally l.cursor.at l.filled _ _ _ _ _ eh es q _ _ _ d in
    let more : l.left ≡ suc (l.left - 1) = omega (arith, c.if-left-eq0.false) in
    let z : Bytes a.run.now = λ k. (c.type_inv.run k).fits in (
      c.b-1.given ∙ l.invariant.0,
      (
        c.out-1.given.1 ∙ l.invariant.1.0,
        (
          omega (arith, w.inside, length-drop l.cursor.at a.run.now, l.invariant.1.1.0),
          (
            omega (arith, w.fits, length-drop l.filled l.out, c.out-1.given.1, l.invariant.1.1.1.0),
            (
              λ k. (c.type_inv.b k).fits,
              (
                sym (turn_on a.config a.clock a.run.now l.b l.out l.tally l.cursor.at l.filled _ _ _ _ _ eh es q
                    step steps l.left (l.left - 1) _ _ _ more d _ counted) ∙ l.invariant.1.1.1.1.1.0,
                λ sound.
                    let s = l.invariant.1.1.1.1.1.1 sound in
                    let served = turn-serves a.config a.clock a.run.now l.b l.out l.tally l.cursor.at l.filled _ _ _ _ _ eh es q
                    l.invariant.1.1.1.1.0 z c.ranges.clock.fits s.0 in (
                      turn-sound a.config a.clock a.run.now l.b l.out l.tally l.cursor.at l.filled _ _ _ _ _ eh es q
                          l.invariant.1.1.1.1.0 z c.ranges.clock.fits s.0,
                      sym (turn_on a.config a.clock a.run.now l.b l.out l.tally l.cursor.at l.filled _ _ _ _ _ eh es q
                          serve served l.left (l.left - 1) _ _ _ more d _ counted) ∙ s.1,
                    ),
              ),
            ),
          ),
        ),
      ),
    )

pub shape_of-b-in_default : goal.shape_of-b-in_default
shape_of-b-in_default c = c.b-1.given ∙ c.loop-frame.invariant.0

pub shape_of-out-in_default : goal.shape_of-out-in_default
shape_of-out-in_default c = c.out-1.given.1 ∙ c.loop-frame.invariant.1.0

pub returns-in_default : goal.returns-in_default
returns-in_default c =
    let a = c.args in
    let l = c.loop-frame in
    let eh = c.head-head.ensures in
    let es = c.rest-seen.ensures in
    let q = c.step-stop.ensures in
    let step = step_at a.config a.clock a.run.now in
    let serve = serve_at a.config a.clock a.run.now in
    let steps = turn-steps a.config a.clock a.run.now l.b l.out l.tally l.cursor.at l.filled _ _ _ _ _ eh es q in
    let d = (ap served_told c.in_default.is) in
    let z : Bytes a.run.now = λ k. (c.type_inv.run k).fits in (
      turn-ends a.config a.clock a.run.now l.b l.out l.tally l.cursor.at l.filled _ _ _ _ _ eh es q
          step steps _ _ _ d _ l.invariant.1.1.1.1.1.0,
      λ sound.
          let s = l.invariant.1.1.1.1.1.1 sound in
          let served = turn-serves a.config a.clock a.run.now l.b l.out l.tally l.cursor.at l.filled _ _ _ _ _ eh es q
          l.invariant.1.1.1.1.0 z c.ranges.clock.fits s.0 in
          turn-ends a.config a.clock a.run.now l.b l.out l.tally l.cursor.at l.filled _ _ _ _ _ eh es q
          serve served _ _ _ d _ s.1,
    )
