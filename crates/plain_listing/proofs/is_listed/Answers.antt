use Rattle.plain_listing.proofs.Listed.{listed_free, listed-dead, listed-live}
use Rattle.keys.specs.Keys.{key_below}
use Prim.Native.Nat.{ℕ}
use mathlib.Core.List.{List}
use mathlib.Core.Bool.{not}
use mathlib.Core.Path.{sym, ap, ◌∙◌}
use Rattle.plain_listing.proofs.is_listed.Goals as goal

pub returns-then-kind-eq0 : goal.returns-then-kind-eq0
returns-then-kind-eq0 c =
    let a = c.args in
    sym (listed_free a.clock a.start.now a.r.now (sym c.be16-kind.ensures ∙ c.if-kind-eq0.true))

pub returns-then-not-alive : goal.returns-then-not-alive
returns-then-not-alive c =
    let kind = c.be16-kind.ensures in
    let a = c.args in
    sym (listed-dead a.clock a.start.now a.r.now (λ z. c.if-kind-eq0.false (kind ∙ z)) _ _ kind c.be32.ensures
    (sym c.alive.ensures ∙ c.if-not-alive.true))

pub returns : goal.returns
returns c =
    let kind = c.be16-kind.ensures in
    let a = c.args in
    ap not c.is_below.ensures ∙ ap (λ (k : List ℕ). not (key_below k a.start.now)) c.key.ensures
    ∙ sym (listed-live a.clock a.start.now a.r.now (λ z. c.if-kind-eq0.false (kind ∙ z)) _ _ kind c.be32.ensures
    (sym c.alive.ensures ∙ c.if-not-alive.false))
