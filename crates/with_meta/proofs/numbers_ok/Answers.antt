use borrow.Author.Tests.{le-leb, eq-eqb, ne_eqb}
use Rattle.with_meta.specs.FieldRules.{numbers_ok}
use Rattle.with_meta.proofs.numbers_ok.Goals as goal

pub returns-then-w-eq0 : goal.returns-then-w-eq0
unfolding numbers_ok
returns-then-w-eq0 c =
    let (least, most, revision, options) = c.if-w-le-OPTION_BITS.true in
    simp (le-leb _ _ least, le-leb _ _ most, le-leb _ _ revision, le-leb _ _ options, eq-eqb _ _ c.if-w-eq0.true)

pub returns-else-w-eq0 : goal.returns-else-w-eq0
unfolding numbers_ok
returns-else-w-eq0 c =
    let (least, most, revision, options) = c.if-w-le-OPTION_BITS.true in
    simp (le-leb _ _ least, le-leb _ _ most, le-leb _ _ revision, le-leb _ _ options, ne_eqb _ _ c.if-w-eq0.false)
