use Rattle.header.specs.Header.{header_bytes, front_bytes, middle_bytes, back_bytes}
use Rattle.header.proofs.HeaderLaws.{length-header}
use Rattle.octets.proofs.Lists.{then-two, written-not}
use Rattle.octets.specs.BigEndian.{bytes_of}
use native.Mathlib.Omega.{arith}
use mathlib.Core.Path.{refl, sym}
use Rattle.header.proofs.put.Goals as goal

pub returns-then-out-ge-SIZE : goal.returns-then-out-ge-SIZE
unfolding header_bytes front_bytes middle_bytes back_bytes bytes_of
returns-then-out-ge-SIZE c =
    then-two _ _ _ _ 0 4 8 _ _ _ c.put_front.ensures c.put_middle.ensures c.put_back.ensures refl refl (omega (arith, c.if-out-ge-SIZE.true))

pub returns-else-out-ge-SIZE : goal.returns-else-out-ge-SIZE
returns-else-out-ge-SIZE c = sym (written-not _ 0 _ (omega (arith, length-header c.args.h, c.if-out-ge-SIZE.false)))
