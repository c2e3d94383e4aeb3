-- `put_field` writes a field whole or not at all.
use native.Mathlib.Omega.{arith}
use Prim.Native.Nat.{◌+◌}
use mathlib.Core.Path.{sym}
use lib.ListN.{length}
use Rattle.octets.specs.BigEndian.{bytes_of}
use Rattle.octets.proofs.Lists.{written-not, then-two}
use Rattle.octets.proofs.Numbers.{length-bytes}
use Rattle.trace_writer.specs.Writing.{field_bytes}
use Rattle.trace_writer.proofs.FieldLaws.{has_room, no_room, length-field}
use Rattle.trace_writer.proofs.put_field.Goals as goal

pub returns-then-not-fits : goal.returns-then-not-fits
returns-then-not-fits c =
    let a = c.args in
    let held = a.held.now in
    sym (written-not a.out.now a.at (field_bytes a.tag held) (omega (arith, length-field a.tag held, no_room _ a.at 3 (length held) _ c.fits.ensures c.if-not-fits.true-raw)))

pub overflow_add-at : goal.overflow_add-at
overflow_add-at c =
    record { fits = omega (arith, has_room _ c.args.at 3 _ _ c.fits.ensures c.if-not-fits.false-raw) }

pub overflow_add-at-2 : goal.overflow_add-at-2
overflow_add-at-2 c =
    record { fits = omega (arith, has_room _ c.args.at 3 _ _ c.fits.ensures c.if-not-fits.false-raw) }

pub returns : goal.returns
unfolding field_bytes
returns c =
    let a = c.args in
    let held = a.held.now in
    then-two _ _ _ _ a.at (a.at + 1) (a.at + 3) (bytes_of 1 a.tag) (bytes_of 2 (length held)) held c.put_be.ensures c.put_be-2.ensures c.put_bytes.ensures
    (omega (arith, length-bytes 1 a.tag)) (omega (arith, length-bytes 2 (length held)))
    (has_room _ a.at 3 (length held) _ c.fits.ensures c.if-not-fits.false-raw)
