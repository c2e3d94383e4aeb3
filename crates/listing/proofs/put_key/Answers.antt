use mathlib.Core.Path.{ap, ◌∙◌}
use mathlib.Core.List.{List}
use Prim.Native.Nat.{ℕ, ◌+◌}
use native.Mathlib.Omega.{arith}
use Rattle.octets.specs.Parts.{written}
use Rattle.listing.proofs.put_key.Goals as goal

pub returns : goal.returns
returns c =
    let a = c.args in
    (omega (arith, c.if-saturating_sub-key.false, c.saturating_sub.ensures), omega arith, c.put_bytes.ensures ∙ ap (λ (s : List ℕ). written s (28 + a.size) a.key.now) c.put_be.ensures)
