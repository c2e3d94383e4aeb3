-- `clock_size` is the length of a field of four bytes, or nothing.
use native.Mathlib.Omega.{arith}
use Prim.Native.Nat.{ℕ, ◌+◌}
use mathlib.Core.Path.{sym, ap, ◌∙◌}
use borrow.Author.Tests.{eq-eqb, ne_eqb}
use lib.ListN.{length}
use Rattle.octets.specs.BigEndian.{bytes_of}
use Rattle.octets.proofs.Numbers.{length-bytes}
use Rattle.trace_writer.proofs.FieldLaws.{clock-same, clock-other, length-field}
use Rattle.trace_writer.proofs.clock_size.Goals as goal

-- `clock_size` is the length of a field of four bytes, or nothing.
pub returns-then-clock-last : goal.returns-then-clock-last
returns-then-clock-last c = let a = c.args in (sym (ap length (clock-same a.last a.clock (eq-eqb _ _ c.if-clock-last.true))), omega arith)

pub returns : goal.returns
returns c = let a = c.args in
    (sym (ap length (clock-other a.last a.clock (ne_eqb _ _ c.if-clock-last.false)) ∙ length-field 1 (bytes_of 4 a.clock) ∙ ap (λ (n : ℕ). 3 + n) (length-bytes 4 a.clock)), omega arith)
