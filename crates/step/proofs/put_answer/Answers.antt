use Rattle.decision.specs.Decision.{decision_told}
use Rattle.step.proofs.Answers.{listed, unlisted}
use Rattle.step.proofs.put_answer.Goals as goal

pub returns-in-Keys : goal.returns-in-Keys
returns-in-Keys c =
    let a = c.args in
    listed a.config a.b.now a.clock a.h (decision_told a.d) a.key.now a.old.now a.out.now _ _ _
    c.in-Keys.is c.put_listing.ensures

pub returns-in_default : goal.returns-in_default
returns-in_default c =
    let a = c.args in
    let w = c.put_reply.ensures in
    unlisted a.config a.b.now a.clock a.h (decision_told a.d) a.key.now a.old.now a.out.now _ _ c.in_default.not-Keys w.0 w.1
