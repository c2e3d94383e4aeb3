use Rattle.effects.specs.declared.Reply.{Reply}
use Rattle.reply.proofs.Replies.{Bodied, body-most, no-reply, replied}
use native.Mathlib.Omega.{arith}
use mathlib.Core.Path.{sym, subst}
use Rattle.reply.proofs.put_fitting.Goals as goal

pub returns-then-silent : goal.returns-then-silent
returns-then-silent g c =
    let a = c.args in
    no-reply a.op a.opaque (g.D.DecisionCode.told a.d) a.key.now a.old.now a.out.now (sym c.if-silent.ensures)

pub overflow_add-result : goal.overflow_add-result
overflow_add-result g c =
    let most = body-most c.reply.result c.args.key.now c.args.old.now c.requires.1.0 c.requires.1.1 in
    omega (arith, most, c.put_body-n.ensures.0)

pub returns : goal.returns
returns g c =
    let a = c.args in
    let most = body-most c.reply.result a.key.now a.old.now c.requires.1.0 c.requires.1.1 in
    let wrote : Reply → Type 0 = λ r. Bodied r a.key.now a.old.now c.put_body-n.result a.out.now c.put_body-n.new.out in
    replied a.op a.opaque (g.D.DecisionCode.told a.d) a.key.now a.old.now a.out.now _ _ _ _ (sym c.if-silent.ensures)
    (omega (arith, most, c.requires.0, c.put_body-n.ensures.0)) (subst wrote c.reply.ensures c.put_body-n.ensures) c.reply_header.ensures c.put.ensures
