use mathlib.Core.Path.{sym, ap, ◌∙◌}
use Rattle.fingerprint.specs.Fingerprint.{fingerprint}
use Rattle.plain_damage.proofs.Prints.{print-free, print-used}
use Rattle.plain_damage.proofs.row_print.Goals as goal

pub returns-then-be16-eq0 : goal.returns-then-be16-eq0
returns-then-be16-eq0 c =
    let r = c.args.r.now in
    sym (print-free r (sym c.be16.ensures ∙ c.if-be16-eq0.true))

pub returns : goal.returns
returns c =
    let r = c.args.r.now in
    c.of_key.ensures ∙ ap fingerprint c.key.ensures
    ∙ sym (print-used r (λ z. c.if-be16-eq0.false (c.be16.ensures ∙ z)))
