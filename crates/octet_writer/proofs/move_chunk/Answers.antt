-- `move_chunk` meets its contract.
use Prim.Native.Nat.{ℕ, ◌+◌, ◌-◌}
use Rattle.octets.specs.Parts.{pasted}
use mathlib.Core.List.{List}
use mathlib.Core.Path.{◌≡◌, ap, ◌∙◌}
use native.Mathlib.Omega.{arith}
use Rattle.octet_writer.proofs.move_chunk.Goals as goal

-- `move_chunk` meets its contract.
pub returns : goal.returns
returns c = let w : c.args.at + 32 - c.args.at ≡ 32 = omega arith in
    c.paste.ensures ∙ ap (λ (t : List ℕ). pasted c.args.out.now (c.args.at + c.args.by) t) (rw w at c.copy_from_slice.ensures.after)
