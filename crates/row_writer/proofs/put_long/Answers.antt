use Prim.Native.Nat.{◌+◌}
use mathlib.Core.Path.{refl}
use native.Mathlib.Omega.{arith}
use Rattle.octets.proofs.Lists.{then}
use Rattle.octets.specs.BigEndian.{bytes_of}
use Rattle.rows.specs.Row.{long_bytes}
use Rattle.row_writer.proofs.put_long.Goals as goal

pub returns : goal.returns
unfolding long_bytes bytes_of
returns c =
    then _ _ _ c.args.at (c.args.at + 8) _ _ c.put_be.ensures c.put_be-2.ensures refl (omega (arith, c.requires))
