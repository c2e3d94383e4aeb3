use borrow.Author.Tests.{le-leb, lt-leb}
use Rattle.with_meta.specs.Section.{field_ok}
use Rattle.with_meta.proofs.field_ok.Goals as goal

pub returns-then-s-lt3 : goal.returns-then-s-lt3
unfolding field_ok
returns-then-s-lt3 c = simp (lt-leb _ _ c.if-s-lt3.true)

pub returns : goal.returns
unfolding field_ok
returns c = simp (le-leb _ _ c.if-s-lt3.false, c.byte-id.ensures, c.be16-size.ensures)
