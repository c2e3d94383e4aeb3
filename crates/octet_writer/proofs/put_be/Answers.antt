-- `put_be` meets its contract.
use Rattle.octets.proofs.Lists.{room, put-there, put-nowhere}
use Rattle.octets.proofs.Numbers.{length-bytes}
use Rattle.octets.specs.BigEndian.{bytes_of}
use Rattle.octet_writer.proofs.put_be.Goals as goal

pub paste_be-requires : goal.paste_be-requires
paste_be-requires c =
    let a = c.args in
    let t = c.fits in
    room a.out.now a.at a.n t.result t.ensures c.if-fits.true

pub returns-then-fits : goal.returns-then-fits
returns-then-fits c =
    let a = c.args in
    let t = c.fits in
    put-there a.out.now a.at a.n t.result t.ensures _ (bytes_of a.n a.v) (length-bytes a.n a.v) c.if-fits.true c.paste_be.ensures

pub returns-else-fits : goal.returns-else-fits
returns-else-fits c =
    let a = c.args in
    let t = c.fits in
    put-nowhere a.out.now a.at a.n t.result t.ensures (bytes_of a.n a.v) (length-bytes a.n a.v) c.if-fits.false
