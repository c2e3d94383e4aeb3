use mathlib.Core.Path.{sym, ◌∙◌}
use borrow.Author.Tests.{eqb-true, eqb-false}
use Rattle.plain.proofs.Placing.{key-none, key-there}
use Rattle.plain.proofs.lookup.find_key.Goals as goal

pub returns-then-is_empty : goal.returns-then-is_empty
returns-then-is_empty c = key-none c.args.key.now _ (eqb-true _ 0 (sym c.is_empty.ensures ∙ c.if-is_empty.true))

pub returns : goal.returns
returns c = c.find.ensures ∙ key-there c.args.key.now _ (eqb-false _ 0 (sym c.is_empty.ensures ∙ c.if-is_empty.false))
