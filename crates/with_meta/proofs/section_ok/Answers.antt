use mathlib.Core.Path.{◌≡◌, sym, ap, ◌∙◌}
use mathlib.Core.Bool.{false}
use lib.ListN.{length}
use lib.Dec.{eqb}
use borrow.Author.Tests.{eq-eqb}
use Rattle.with_meta.specs.Section.{fields_ok, section_ok}
use Rattle.with_meta.proofs.section_ok.Goals as goal

pub returns-then-byte-eq-VERSION : goal.returns-then-byte-eq-VERSION
unfolding section_ok
returns-then-byte-eq-VERSION c =
    let some : eqb (length c.args.s.now) 0 ≡ false = sym c.is_empty.ensures ∙ c.if-is_empty.false in
    rw (some, eq-eqb _ _ (sym c.byte.ensures ∙ c.if-byte-eq-VERSION.true)) (c.fields_ok.ensures ∙ ap fields_ok c.rest.ensures)
