use mathlib.Core.Path.{ap}
use borrow.Author.Tests.{le-ltb, lt-ltb, eq-eqb, ne_eqb}
use Rattle.header.specs.declared.Layout.{Layout}
use Rattle.request.specs.Reading.{gate_of}
use Rattle.request.proofs.gate_of.Goals as goal

pub returns-then-received-lt-SIZE : goal.returns-then-received-lt-SIZE
unfolding gate_of
returns-then-received-lt-SIZE c = simp (lt-ltb _ _ c.if-received-lt-SIZE.true)

pub returns-then-h : goal.returns-then-h
unfolding gate_of
returns-then-h c = simp (le-ltb _ _ c.if-received-lt-SIZE.false, ← c.read-h.ensures, ne_eqb _ _ c.if-h.true)

pub returns-then-h-gt-LONGEST_BODY : goal.returns-then-h-gt-LONGEST_BODY
unfolding gate_of
returns-then-h-gt-LONGEST_BODY c =
    simp (le-ltb _ _ c.if-received-lt-SIZE.false, ← c.read-h.ensures, eq-eqb _ _ c.if-h.false, lt-ltb _ _ c.if-h-gt-LONGEST_BODY.true)

pub returns-then-received-end : goal.returns-then-received-end
unfolding gate_of
returns-then-received-end c =
    let l = ap (λ (x : Layout). x.end) c.layout_of-end.ensures in
    simp (le-ltb _ _ c.if-received-lt-SIZE.false, ← c.read-h.ensures, eq-eqb _ _ c.if-h.false, le-ltb _ _ c.if-h-gt-LONGEST_BODY.false, ← l, lt-ltb _ _ c.if-received-end.true)

pub returns : goal.returns
unfolding gate_of
returns c =
    let l = ap (λ (x : Layout). x.end) c.layout_of-end.ensures in
    simp (le-ltb _ _ c.if-received-lt-SIZE.false, ← c.read-h.ensures, eq-eqb _ _ c.if-h.false, le-ltb _ _ c.if-h-gt-LONGEST_BODY.false, ← l, le-ltb _ _ c.if-received-end.false)
