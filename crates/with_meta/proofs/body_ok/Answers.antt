use borrow.Author.Tests.{eq-eqb}
use Rattle.std.proofs.Math.Bool.{or-false}
use Rattle.with_meta.specs.FieldRules.{body_ok}
use Rattle.with_meta.proofs.body_ok.Goals as goal

pub returns-in-Document : goal.returns-in-Document
unfolding body_ok
returns-in-Document c = simp (c.in-Document.is, or-false)

pub returns-then-w-eq0 : goal.returns-then-w-eq0
unfolding body_ok
returns-then-w-eq0 c = simp (c.in-Tombstone.is, eq-eqb _ _ c.if-w-eq0.true.0, eq-eqb _ _ c.if-w-eq0.true.1)
