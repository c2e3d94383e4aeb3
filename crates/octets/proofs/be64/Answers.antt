use Rattle.octets.proofs.Lists.{room}
use Rattle.octets.proofs.be64.Goals as goal

pub halves-requires : goal.halves-requires
halves-requires c =
    let a = c.args in
    let t = c.fits in
    room a.s.now a.at 8 t.result t.ensures c.if-fits.true
