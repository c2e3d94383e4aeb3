-- `put_bytes` meets its contract.
use Rattle.octets.proofs.Lists.{room, put-there, put-nowhere}
use lib.ListN.{length}
use mathlib.Core.Path.{refl}
use Rattle.octet_writer.proofs.put_bytes.Goals as goal

pub returns-then-not-fits : goal.returns-then-not-fits
returns-then-not-fits c =
    let a = c.args in
    let t = c.fits in
    put-nowhere a.out.now a.at (length a.s.now) t.result t.ensures a.s.now refl c.if-not-fits.true

pub paste-requires : goal.paste-requires
paste-requires c =
    let a = c.args in
    let t = c.fits in
    room a.out.now a.at (length a.s.now) t.result t.ensures c.if-not-fits.false

pub returns-then-s-lt32 : goal.returns-then-s-lt32
returns-then-s-lt32 c =
    let a = c.args in
    let t = c.fits in
    put-there a.out.now a.at (length a.s.now) t.result t.ensures _ a.s.now refl c.if-not-fits.false c.paste.ensures

pub paste_run-requires : goal.paste_run-requires
paste_run-requires c =
    let a = c.args in
    let t = c.fits in
    (c.if-s-lt32.false, room a.out.now a.at (length a.s.now) t.result t.ensures c.if-not-fits.false)

pub returns-else-s-lt32 : goal.returns-else-s-lt32
returns-else-s-lt32 c =
    let a = c.args in
    let t = c.fits in
    put-there a.out.now a.at (length a.s.now) t.result t.ensures _ a.s.now refl c.if-not-fits.false c.paste_run.ensures
