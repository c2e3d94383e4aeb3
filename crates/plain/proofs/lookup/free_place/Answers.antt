use mathlib.Core.Path.{sym, ap, ◌∙◌}
use borrow.Author.Tests.{not-true, not-false}
use Rattle.plain.specs.Lookup.{free_place}
use Rattle.plain.proofs.lookup.free_place.Goals as goal

pub returns-then-not-new : goal.returns-then-not-new
returns-then-not-new c = rw (not-true c.args.new c.if-not-new.true-raw)

pub returns-in-Some : goal.returns-in-Some
returns-in-Some c =
    rw (not-false c.args.new c.if-not-new.false-raw) (ap free_place (sym c.in-Some.is ∙ c.free.ensures))

pub returns-in-None : goal.returns-in-None
returns-in-None c =
    rw (not-false c.args.new c.if-not-new.false-raw) (ap free_place (sym c.in-None.is ∙ c.free.ensures))
