-- `put_clock` writes a field of four bytes, or nothing.
use native.Mathlib.Omega.{arith}
use Prim.Native.Nat.{ℕ}
use mathlib.Core.Path.{◌≡◌, refl, sym, ap, ◌∙◌}
use mathlib.Core.List.{List, [], ◌∷◌}
use borrow.Author.Tests.{eq-eqb, ne_eqb}
use Rattle.octets.specs.Parts.{pasted, written}
use Rattle.octets.specs.BigEndian.{bytes_of}
use Rattle.octets.proofs.Lists.{written_none}
use Rattle.trace_writer.specs.Writing.{field_bytes}
use Rattle.trace_writer.proofs.FieldLaws.{clock-same, clock-other}
use Rattle.trace_writer.proofs.put_clock.Goals as goal

-- `put_clock` writes a field of four bytes, or nothing.
-- the four bytes of a clock, written over four
all : (clock : ℕ) → written (0 ∷ 0 ∷ 0 ∷ 0 ∷ []) 0 (bytes_of 4 clock) ≡ bytes_of 4 clock
unfolding written pasted bytes_of
all clock = refl

pub returns-then-clock-last : goal.returns-then-clock-last
returns-then-clock-last c = let a = c.args in
    sym (ap (written a.out.now 0) (clock-same a.last a.clock (eq-eqb _ _ c.if-clock-last.true)) ∙ written_none a.out.now 0 (omega arith))

pub returns : goal.returns
returns c =
    let a = c.args in
    let out = a.out.now in
    let whole : c.put_be.new.out ≡ bytes_of 4 a.clock = c.put_be.ensures ∙ all a.clock in
    c.put_field.ensures ∙ ap (λ (xs : List ℕ). written out 0 (field_bytes 1 xs)) whole ∙ ap (written out 0)
    (sym (clock-other a.last a.clock (ne_eqb _ _ c.if-clock-last.false)))
