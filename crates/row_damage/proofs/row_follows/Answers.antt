use mathlib.Core.Path.{sym, ◌∙◌}
use Rattle.keys.specs.Keys.{side_of}
use Rattle.row_damage.proofs.Following.{free-follows, used-after-free, used-follows}
use Rattle.row_damage.proofs.row_follows.Goals as goal
use Rattle.row_damage.proofs.row_follows.Goals.{After-compare}

pub returns-then-be16-eq0 : goal.returns-then-be16-eq0
returns-then-be16-eq0 c =
    let a = c.args in
    sym (free-follows a.v.now a.w.now (sym c.be16.ensures ∙ c.if-be16-eq0.true))

pub returns-then-be16-eq0-2 : goal.returns-then-be16-eq0-2
returns-then-be16-eq0-2 c =
    let a = c.args in
    sym (used-after-free a.v.now a.w.now (λ z. c.if-be16-eq0.false (c.be16.ensures ∙ z)) (sym c.be16-2.ensures ∙ c.if-be16-eq0-2.true))

pub returns : goal.returns
returns c =
    let v = c.args.v.now in
    let w = c.args.w.now in
    c.is_lt.ensures
    ∙ sym (used-follows v w
    (λ z. c.if-be16-eq0.false (c.be16.ensures ∙ z))
    (λ z. c.if-be16-eq0-2.false (c.be16-2.ensures ∙ z))
    c.compare.result
    (c.compare.ensures ∙ (λ i. side_of (c.key-a.ensures i) (c.key-b.ensures i))))
