use borrow.Author.Tests.{le-ltb, lt-ltb}
use Rattle.trace.specs.Trace.{opening_of}
use Rattle.trace.proofs.opening_of.Goals as goal

pub returns-then-trace-gt-LONGEST : goal.returns-then-trace-gt-LONGEST
unfolding opening_of
returns-then-trace-gt-LONGEST c = simp (lt-ltb _ _ c.if-trace-gt-LONGEST.true)

pub returns-then-trace-lt-OPENING : goal.returns-then-trace-lt-OPENING
unfolding opening_of
returns-then-trace-lt-OPENING c = simp (le-ltb _ _ c.if-trace-gt-LONGEST.false, lt-ltb _ _ c.if-trace-lt-OPENING.true)

pub returns-then-mode : goal.returns-then-mode
unfolding opening_of
returns-then-mode c =
    simp (le-ltb _ _ c.if-trace-gt-LONGEST.false, le-ltb _ _ c.if-trace-lt-OPENING.false, ← c.byte-mode.ensures, ← c.be16.ensures, c.if-mode.true)

pub returns : goal.returns
unfolding opening_of
returns c =
    simp (le-ltb _ _ c.if-trace-gt-LONGEST.false, le-ltb _ _ c.if-trace-lt-OPENING.false, ← c.byte-mode.ensures, c.if-mode.false)
