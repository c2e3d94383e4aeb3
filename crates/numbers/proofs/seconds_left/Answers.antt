use Rattle.std.proofs.Common.{ap, to_z-of_z, eq-eqb, ne_eqb}
use Rattle.std.specs.Prelude.{Some}
use Rattle.numbers.specs.Expiry.{seconds_left}
use Rattle.numbers.proofs.Differences.{small, sub-fits}
use Rattle.numbers.proofs.seconds_left.Goals as goal

pub returns-then-expiry-eq0 : goal.returns-then-expiry-eq0
unfolding seconds_left
returns-then-expiry-eq0 c = simp (eq-eqb _ _ c.if-expiry-eq0.true)

pub overflow_sub-result : goal.overflow_sub-result
overflow_sub-result c =
    let a = c.args in
    let f = c.ranges in
    rw (small a.expiry f.expiry.fits, small a.clock f.clock.fits) (sub-fits a.expiry a.clock f.expiry.fits f.clock.fits)

pub returns : goal.returns
unfolding seconds_left
returns c =
    let a = c.args in
    let f = c.ranges in
    let fits = sub-fits a.expiry a.clock f.expiry.fits f.clock.fits in
    rw (small a.expiry f.expiry.fits, small a.clock f.clock.fits, ne_eqb _ _ c.if-expiry-eq0.false) (ap Some (to_z-of_z fits))
