use Prim.Native.Nat.{ℕ}
use mathlib.Core.Path.{ap, ◌∙◌}
use Rattle.octets.specs.Parts.{written}
use Rattle.rows.specs.Row.{slot_bytes}
use Rattle.row_writer.proofs.put_fixed.Goals as goal

pub returns : goal.returns
returns c =
    let a = c.args in
    c.put_slot.ensures
    ∙ ap (λ (n : ℕ). written a.row.now 0 (slot_bytes (record { kind = n; keylen = a.k; vallen = a.size; numbers = a.m.numbers }))) c.kind_of.ensures
