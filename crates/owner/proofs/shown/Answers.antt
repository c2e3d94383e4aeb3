use mathlib.Core.Path.{sym, ap, ◌∙◌}
use Rattle.numbers.specs.declared.Numbers.{Numbers}
use Rattle.numbers.specs.Expiry.{seconds_left, is_past, seconds_in}
use Rattle.owning.specs.Owner.{Expired, Live}
use Rattle.owner.proofs.Reading.{shown-none, shown-past, shown-live}
use Rattle.numbers.proofs.Differences.{kept}
use Rattle.owner.proofs.shown.Goals as goal

pub returns-then-not-is_document : goal.returns-then-not-is_document
returns-then-not-is_document c =
    let a = c.args in
    shown-none a.clock a.l (sym c.is_document.ensures ∙ c.if-not-is_document.true)

pub returns-then-is_past : goal.returns-then-is_past
returns-then-is_past c =
    let a = c.args in
    let e = c.seconds_left-left.ensures ∙ ap (λ (n : Numbers). seconds_left n.expiry a.clock) c.numbers_of-numbers.ensures in
    ap Expired (kept c.seconds_in.result c.seconds_in.type_inv ∙ c.seconds_in.ensures ∙ ap seconds_in e)
    ∙ shown-past a.clock a.l (sym c.is_document.ensures ∙ c.if-not-is_document.false)
    (sym (c.is_past.ensures ∙ ap is_past e) ∙ c.if-is_past.true)

pub returns : goal.returns
returns c =
    let a = c.args in
    let n = c.numbers_of-numbers.ensures in
    let e = c.seconds_left-left.ensures ∙ ap (λ (n : Numbers). seconds_left n.expiry a.clock) n in
    (λ i. Live (n i) (e i) a.l.at a.l.len)
    ∙ shown-live a.clock a.l (sym c.is_document.ensures ∙ c.if-not-is_document.false)
    (sym (c.is_past.ensures ∙ ap is_past e) ∙ c.if-is_past.false)
