use Rattle.serving.specs.Reply.{header_with, reply_header}
use Rattle.decision.specs.Decide.{reply_key, reply_extras}
use Rattle.effects.specs.declared.Reply.{Reply}
use Rattle.reply.proofs.Replies.{body-most}
use lib.ListN.{length}
use native.Mathlib.Omega.{arith}
use mathlib.Core.Path.{ap, ◌∙◌}
use Rattle.reply.proofs.reply_header.Goals as goal

pub overflow_cast-body : goal.overflow_cast-body
overflow_cast-body g c =
    let r = (g.D.DecisionCode.told c.args.d).done.reply in
    omega (arith, body-most r c.args.key.now c.args.old.now c.requires.0 c.requires.1.0, c.requires.1.1)

pub returns : goal.returns
unfolding reply_header
returns g c =
    let a = c.args in
    let k = c.key_size-k.ensures ∙ ap (λ (r : Reply). length (reply_key r a.key.now)) c.reply-r.ensures in
    let e = c.extras_size-e.ensures ∙ ap (λ (r : Reply). length (reply_extras r)) c.reply-r.ensures in
    c.header_with.ensures ∙ (λ i. header_with a.op a.opaque (c.status-status.ensures i) (k i) (e i) (c.requires.1.1 i) (c.cas.ensures i))
