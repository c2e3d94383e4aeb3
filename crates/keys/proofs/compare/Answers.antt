use borrow.Author.Rules.{rules}
use native.Mathlib.Omega.{arith}
use mathlib.Core.Path.{◌≡◌, sym, ◌∙◌}
use Rattle.std.specs.Ordering.{nat_cmp}
use Rattle.std.specs.Cmp.Lexicographic.{slice_cmp}
use Rattle.keys.proofs.KeyLaws.{side-is, eight-side}
use Rattle.keys.proofs.compare.Goals as goal

pub returns-then-t-eq8 : goal.returns-then-t-eq8
returns-then-t-eq8 c =
    let a = c.args in
    c.cmp.ensures ∙ (λ i. nat_cmp (c.be64.ensures i) (c.be64-then-t-eq8.ensures i))
    ∙ eight-side a.s.now a.t.now (search rules) (search rules) c.if-s-eq8.true c.if-t-eq8.true

pub returns : goal.returns
returns c =
    let a = c.args in
    let e : c.cmp-2.result ≡ slice_cmp nat_cmp a.s.now a.t.now = grind arith in
    e ∙ sym (side-is a.s.now a.t.now)
