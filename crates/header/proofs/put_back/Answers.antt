use Rattle.header.specs.Header.{back_bytes}
use Rattle.octets.proofs.Lists.{then-two}
use Rattle.octets.specs.BigEndian.{bytes_of}
use native.Mathlib.Omega.{arith}
use mathlib.Core.Path.{refl}
use Rattle.header.proofs.put_back.Goals as goal

pub returns : goal.returns
unfolding back_bytes bytes_of
returns c =
    then-two _ _ _ _ 8 12 16 _ _ _ c.put_be.ensures c.put_be-2.ensures c.put_be-3.ensures refl refl (omega (arith, c.requires))
