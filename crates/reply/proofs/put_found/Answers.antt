use Rattle.octets.proofs.Lists.{then-two}
use Prim.Native.Nat.{◌+◌}
use Rattle.octets.specs.BigEndian.{bytes_of}
use lib.ListN.{length}
use native.Mathlib.Omega.{arith}
use mathlib.Core.Path.{refl}
use Rattle.reply.proofs.put_found.Goals as goal

pub returns : goal.returns
unfolding bytes_of
returns c =
    let key = c.args.key.now in (
      refl,
      then-two _ _ _ _ 24 28 (28 + length key) (bytes_of 4 c.args.flags) key c.args.old.now
          c.put_be.ensures c.put_bytes.ensures c.put_bytes-2.ensures refl refl (omega (arith, c.requires)),
    )
