-- `put_opening` writes mode, vbucket and rule where all fit.
use native.Mathlib.Omega.{arith}
use mathlib.Core.Path.{sym}
use mathlib.Core.Bool.{false}
use Rattle.octets.specs.BigEndian.{bytes_of}
use Rattle.octets.proofs.Lists.{written-not, then-two}
use Rattle.octets.proofs.Numbers.{length-bytes}
use Rattle.trace_writer.specs.Writing.{opening_bytes, rule_field}
use Rattle.trace_writer.proofs.FieldLaws.{length-opening, length-rule}
use Rattle.trace_writer.proofs.put_opening.Goals as goal

-- `put_opening` writes mode, vbucket and rule where all fit.
pub returns-then-out-lt-BEGINNING : goal.returns-then-out-lt-BEGINNING
returns-then-out-lt-BEGINNING c = let a = c.args in sym (written-not a.out.now 0 (opening_bytes a.mode a.vbucket) (omega (arith, length-opening a.mode a.vbucket)))

pub returns : goal.returns
unfolding opening_bytes
returns c =
    let a = c.args in
    then-two _ _ _ _ 0 1 3 (bytes_of 1 a.mode) (bytes_of 2 a.vbucket) (rule_field false) c.put_be.ensures c.put_be-2.ensures c.put_field.ensures
    (omega (arith, length-bytes 1 a.mode)) (omega (arith, length-bytes 2 a.vbucket)) (omega (arith, length-rule false, c.if-out-lt-BEGINNING.false))
