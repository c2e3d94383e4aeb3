use mathlib.Core.Path.{sym, ◌∙◌}
use borrow.Author.Tests.{not-false}
use Rattle.rules.specs.Rules.{meta_size}
use Rattle.rules.proofs.meta_size.Goals as goal

pub returns-then-not-has_meta : goal.returns-then-not-has_meta
unfolding meta_size
returns-then-not-has_meta g c = simp (not-false _ (sym c.has_meta.ensures ∙ c.if-not-has_meta.true))
