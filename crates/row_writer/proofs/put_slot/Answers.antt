use Prim.Native.Nat.{◌+◌}
use mathlib.Core.Path.{refl}
use native.Mathlib.Omega.{arith}
use Rattle.octets.proofs.Lists.{then-two}
use Rattle.octets.specs.BigEndian.{bytes_of}
use Rattle.rows.specs.Row.{size_bytes, short_bytes, long_bytes, slot_bytes}
use Rattle.row_writer.proofs.put_slot.Goals as goal

pub returns : goal.returns
unfolding size_bytes short_bytes long_bytes slot_bytes bytes_of
returns c =
    then-two _ _ _ _ c.args.at (c.args.at + 8) (c.args.at + 16) _ _ _ c.put_sizes.ensures c.put_short.ensures c.put_long.ensures refl
    (omega arith) (omega (arith, c.requires))
