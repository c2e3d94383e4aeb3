-- `record` hands on the fields where the trace has room for them.
use mathlib.Core.Path.{refl}
use Rattle.contact_box.proofs.Recording.{inside, goes_on, hands-grown}
use Rattle.contact_box.proofs.recorder.record.Goals as goal

pub grown-requires : goal.grown-requires
grown-requires g c =
    let a = c.args in
    inside a.r a.clock a.frame.now a.reply.now c.requires.0 c.requires.1 c.put_served-n.result c.minus.result c.put_served-n.ensures.0 c.minus.ensures
    c.if-minus-n.false

pub returns-clause-fields : goal.returns-clause-fields
returns-clause-fields g c =
    let a = c.args in
    hands-grown a.r a.clock a.frame.now a.reply.now c.requires.0 c.requires.1 c.put_served-n.result c.minus.result c.put_served-n.ensures.0 c.minus.ensures
    _ _ c.grown.result c.all-written.result _ _ _ refl c.put_served-n.ensures.1 c.part.ensures c.grown.ensures c.all-written.ensures

pub returns-clause-grows : goal.returns-clause-grows
returns-clause-grows g c =
    let a = c.args in
    goes_on a.r a.clock a.frame.now a.reply.now c.requires.0 c.requires.1 c.put_served-n.result c.minus.result c.put_served-n.ensures.0 c.minus.ensures
    _ c.all-written.result c.if-minus-n.false c.grown.ensures
