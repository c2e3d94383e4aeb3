-- `put_served` writes all three fields or none.
use native.Mathlib.Omega.{arith}
use Prim.Native.Nat.{◌+◌}
use Rattle.trace_writer.proofs.FieldLaws.{has_room, no_room}
use Rattle.trace_writer.proofs.Served.{left_out, put_in}
use Rattle.trace_writer.proofs.put_served.Goals as goal

pub overflow_add-start : goal.overflow_add-start
overflow_add-start c = record { fits = omega (arith, c.clock_size-start.ensures.1) }

pub overflow_add-start-2 : goal.overflow_add-start-2
overflow_add-start-2 c = record { fits = omega (arith, c.clock_size-start.ensures.1) }

pub returns-then-not-fits : goal.returns-then-not-fits
returns-then-not-fits c =
    let a = c.args in
    let n = c.clock_size-start.result in
    left_out a.out.now a.last a.clock a.frame.now a.reply.now n c.clock_size-start.ensures.0
    (no_room _ (n + 3 + 3) _ _ _ c.fits.ensures c.if-not-fits.true-raw)

pub overflow_add-end : goal.overflow_add-end
overflow_add-end c = record { fits = omega (arith, has_room _ (c.clock_size-start.result + 3 + 3) _ _ _ c.fits.ensures c.if-not-fits.false-raw) }

pub overflow_add-end-2 : goal.overflow_add-end-2
overflow_add-end-2 c = record { fits = omega (arith, has_room _ (c.clock_size-start.result + 3 + 3) _ _ _ c.fits.ensures c.if-not-fits.false-raw) }

pub overflow_add-result : goal.overflow_add-result
overflow_add-result c =
    record { fits = omega (arith, has_room _ (c.clock_size-start.result + 3 + 3) _ _ _ c.fits.ensures c.if-not-fits.false-raw) }

pub overflow_add-result-2 : goal.overflow_add-result-2
overflow_add-result-2 c =
    record { fits = omega (arith, has_room _ (c.clock_size-start.result + 3 + 3) _ _ _ c.fits.ensures c.if-not-fits.false-raw) }

pub returns : goal.returns
returns c =
    let a = c.args in
    let n = c.clock_size-start.result in
    put_in a.out.now a.last a.clock a.frame.now a.reply.now n c.clock_size-start.ensures.0 _ _ _
    (has_room _ (n + 3 + 3) _ _ _ c.fits.ensures c.if-not-fits.false-raw) c.put_clock.ensures c.put_field.ensures
    c.put_field-2.ensures
