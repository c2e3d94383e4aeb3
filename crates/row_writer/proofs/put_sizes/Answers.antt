use Prim.Native.Nat.{◌+◌}
use mathlib.Core.Path.{refl}
use native.Mathlib.Omega.{arith}
use Rattle.octets.proofs.Lists.{then-two}
use Rattle.octets.specs.BigEndian.{bytes_of}
use Rattle.rows.specs.Row.{size_bytes}
use Rattle.row_writer.proofs.put_sizes.Goals as goal

pub returns : goal.returns
unfolding size_bytes bytes_of
returns c =
    then-two _ _ _ _ c.args.at (c.args.at + 2) (c.args.at + 4) _ _ _ c.put_be.ensures c.put_be-2.ensures c.put_be-3.ensures refl
    (omega arith) (omega (arith, c.requires))
