use Rattle.reply.proofs.Replies.{shown-fits, found-body}
use Rattle.octets.proofs.Lists.{written_none}
use Rattle.octets.specs.BigEndian.{bytes_of}
use native.Mathlib.Omega.{arith}
use mathlib.Core.Path.{refl, sym}
use Rattle.reply.proofs.put_body.Goals as goal

pub put_found-requires : goal.put_found-requires
put_found-requires c =
    let k = shown-fits c.args.key.now c.in-Found.is c.shown_key.ensures in
    (omega (arith, c.requires), (omega (arith, k, c.requires), omega (arith, c.requires)))

pub returns-in-Bare : goal.returns-in-Bare
returns-in-Bare c = rw c.in-Bare.is (refl, sym (written_none _ 24 (omega (arith, c.requires))))

pub returns-in-Found : goal.returns-in-Found
returns-in-Found c =
    let a = c.args in
    found-body a.r a.key.now a.shown.now _ _ _ _ _ _ c.in-Found.is c.shown_key.ensures c.put_found.ensures

pub returns-in-Counted : goal.returns-in-Counted
unfolding bytes_of
returns-in-Counted c = rw c.in-Counted.is (refl, c.put_be.ensures)

pub returns-in-Version : goal.returns-in-Version
returns-in-Version c = rw c.in-Version.is (refl, c.put_bytes.ensures)

pub returns-in-Keys : goal.returns-in-Keys
returns-in-Keys c = rw c.in-Keys.is (refl, c.put_bytes-in-Keys.ensures)
