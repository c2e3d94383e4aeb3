-- `number_there` meets its contract: where fewer bytes are there, theirs is the number.
use Rattle.octets.proofs.Lists.{room, part-most}
use Rattle.octets.proofs.Numbers.{be-within}
use lib.ListN.{length}
use lib.Seq.{take-length}
use mathlib.Core.Path.{ap, ◌∙◌}
use native.Mathlib.Omega.{arith}
use Rattle.octets.proofs.number_there.Goals as goal

pub number-requires : goal.number-requires
number-requires c =
    let a = c.args in
    let t = c.fits in
    (room a.s.now a.at a.n t.result t.ensures c.if-fits.true, omega arith)

pub number-requires-2 : goal.number-requires-2
number-requires-2 c =
    let a = c.args in
    (omega arith, omega (arith, ap length c.part-there.ensures, part-most a.s.now a.at a.n))

pub returns : goal.returns
returns c =
    let a = c.args in
    let there = c.part-there.result.now in (
      c.number-2.ensures.0 ∙ rw (take-length there, c.part-there.ensures),
      be-within c.number-2.result (length there) a.n c.number-2.ensures.1 (omega (arith, ap length c.part-there.ensures, part-most a.s.now a.at a.n)),
    )
