use Rattle.row_writer.proofs.Joined.{joined-front, joined_back}
use Rattle.row_writer.proofs.put_joined.Goals as goal

pub returns-in-Front : goal.returns-in-Front
returns-in-Front c =
    let a = c.args in
    rw c.in-Front.is
    (joined-front a.row.now a.k a.m a.value.now a.old c.requires.0 c.requires.1 _ c.put_fixed.ensures _ _ c.move_up.ensures c.put_bytes.ensures)

pub returns-in-Back : goal.returns-in-Back
returns-in-Back c =
    let a = c.args in
    rw c.in-Back.is
    (joined_back a.row.now a.k a.m a.value.now a.old c.requires.0 c.requires.1 _ c.put_fixed.ensures _ c.put_bytes-in-Back.ensures)
