use Rattle.reply.proofs.Replies.{bounds, within, unfit-reply}
use lib.ListN.{length}
use Rattle.reply.proofs.put_reply.Goals as goal

pub returns-then-out-key : goal.returns-then-out-key
returns-then-out-key g c =
    let a = c.args in
    unfit-reply a.op a.opaque (g.D.DecisionCode.told a.d) a.key.now a.old.now a.out.now c.if-out-key.true

pub put_fitting-requires : goal.put_fitting-requires
put_fitting-requires g c =
    let a = c.args in
    bounds (length a.out.now) a.key.now a.old.now c.if-out-key.false

pub returns : goal.returns
returns g c =
    let a = c.args in
    within a.op a.opaque (g.D.DecisionCode.told a.d) a.key.now a.old.now a.out.now c.if-out-key.false _ _ c.put_fitting.ensures
