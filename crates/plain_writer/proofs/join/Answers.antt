use Rattle.plain_writer.proofs.Writes.{join-there, join-nowhere}
use Rattle.plain_writer.proofs.join.Goals as goal

pub returns-in-Some : goal.returns-in-Some
returns-in-Some c =
    let a = c.args in
    let at = c.in-Some.ensures in
    rw at.1 (join-there a.b.now a.i a.k a.m a.side a.value.now a.old at.0 _ (rw at.1 at c.join_row.ensures))

pub returns-in_default : goal.returns-in_default
returns-in_default c =
    let a = c.args in
    join-nowhere a.b.now a.i a.k a.m a.side a.value.now a.old c.in_default.ensures
