use Rattle.outcome.specs.Outcome.{status_of}
use Rattle.serving.specs.Serve.{Done}
use Rattle.step.proofs.Framed.{asked_by}
use Rattle.step.proofs.serve_asked.Goals as goal

pub returns : goal.returns
returns c =
    let x = c.args in
    asked_by x.config x.b.now x.head x.clock x.h x.ask x.key.now _ x.out.now _ _ _ _ _ _
    c.writes.ensures c.find-l.ensures c.part-old.ensures c.at_clock-now.ensures
    c.decided-d.ensures c.part.ensures _ _ _ _ c.put_answer-reply.ensures
    (λ i. Done (status_of c.decided-d.result.status) (c.layout_of-frame.ensures i).end c.put_answer-reply.result)
    c.change.ensures
