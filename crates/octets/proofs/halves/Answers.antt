use Prim.Native.Nat.{◌+◌, ◌*◌}
use mathlib.Core.Path.{sym, ◌∙◌}
use Rattle.octets.proofs.Numbers.{num-split}
use native.Mathlib.Omega.{arith}
use Rattle.octets.proofs.halves.Goals as goal

pub returns : goal.returns
returns c =
    let a = c.args in
    (λ i. c.number.ensures.0 i * 4294967296 + c.number-2.ensures.0 i) ∙ sym (num-split a.s.now a.at 4 4 (omega arith))
