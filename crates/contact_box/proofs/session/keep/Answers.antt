-- `keep` has the bytes held at the start, by way of an array that has room for them.
use native.Mathlib.Omega.{arith}
use mathlib.Core.Path.{refl}
use Rattle.contact_box.proofs.Holding.{some-kept}
use Rattle.contact_box.proofs.session.keep.Goals as goal

pub returns : goal.returns
returns c =
    some-kept c.held_of-held.result.now _ _ _ c.part.result.now c.args.received.now _ _ c.held_of-held.ensures (omega (arith, c.requires))
    refl c.copy_from_slice.ensures.after c.part.ensures c.put_bytes.ensures
