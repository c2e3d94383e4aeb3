-- `put_zeros` meets its contract.
use Rattle.octets.proofs.Lists.{room, put-there, put-nowhere}
use lib.ListN.{replicate, length-replicate}
use Rattle.octet_writer.proofs.put_zeros.Goals as goal

pub paste_zeros-requires : goal.paste_zeros-requires
paste_zeros-requires c =
    let a = c.args in
    let t = c.fits in
    room a.out.now a.at a.n t.result t.ensures c.if-fits.true

pub returns-then-fits : goal.returns-then-fits
returns-then-fits c =
    let a = c.args in
    let t = c.fits in
    put-there a.out.now a.at a.n t.result t.ensures _ (replicate a.n 0) (length-replicate a.n 0) c.if-fits.true c.paste_zeros.ensures

pub returns-else-fits : goal.returns-else-fits
returns-else-fits c =
    let a = c.args in
    let t = c.fits in
    put-nowhere a.out.now a.at a.n t.result t.ensures (replicate a.n 0) (length-replicate a.n 0) c.if-fits.false
