use borrow.Author.Rules.{rules}
use mathlib.Core.Path.{◌≡◌, sym, ap, ◌∙◌}
use Rattle.std.proofs.Common.{Err}
use Rattle.outcome.specs.Outcome.{status_of}
use Rattle.outcome.proofs.StatusLaws.{no-success}
use Rattle.rules.proofs.RuleLaws.{judged-form, judged-other}
use Rattle.rules.proofs.judge.Goals as goal

pub returns-in_err-form_status : goal.returns-in_err-form_status
returns-in_err-form_status c =
    let status = c.in_err-form_status.field-0.0 in
    let told : c.from_residual.result ≡ Err status = search rules in
    let form = c.in_err-form_status.ensures in
    ap status_of told ∙ form ∙ sym (judged-other _ _ _ _ (λ z. no-success status (form ∙ z)))

pub returns : goal.returns
returns c = c.field_status.ensures ∙ sym (judged-form _ _ (sym c.in_ok-form_status.ensures) _ _)
