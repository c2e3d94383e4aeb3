use native.Mathlib.Omega.{arith}
use Rattle.digits.proofs.DecimalLaws.{length-one, length_more, put_one, put-more}
use Rattle.digits.proofs.+put_digits.Goals as goal

pub bounds-out-at : goal.bounds-out-at
bounds-out-at t c = omega (arith, length-one _ c.if-n-lt10.true)

pub returns-then-n-lt10 : goal.returns-then-n-lt10
returns-then-n-lt10 t c =
    let l = length-one _ c.if-n-lt10.true in
    (omega arith, put_one _ _ _ _ c.if-n-lt10.true (omega arith) c.digit.ensures)

pub put_digits-next-requires : goal.put_digits-next-requires
put_digits-next-requires t c =
    let l = length_more _ c.if-n-lt10.false c.ranges.n.fits in (
      omega arith,
      omega arith,
    )

pub bounds-out-next : goal.bounds-out-next
bounds-out-next t c = let l = length_more c.args.n c.if-n-lt10.false c.ranges.n.fits in omega (arith, c.put_digits-next.auto.out)

pub overflow_add-result-2 : goal.overflow_add-result-2
overflow_add-result-2 t c = let l = length_more c.args.n c.if-n-lt10.false c.ranges.n.fits in omega arith

pub returns : goal.returns
returns t c =
    let l = length_more c.args.n c.if-n-lt10.false c.ranges.n.fits in (
      omega arith,
      put-more _ _ _ _ _ _ c.if-n-lt10.false c.ranges.n.fits c.requires c.put_digits-next.ensures.1 c.put_digits-next.ensures.0
          c.digit-2.ensures,
    )
