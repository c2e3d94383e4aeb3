use Rattle.document.specs.Documents.{Entry}
use Rattle.plain_writer.proofs.Writes.{put-there, put-nowhere}
use Rattle.plain_writer.proofs.store.Goals as goal

pub returns-in-Some : goal.returns-in-Some
returns-in-Some c =
    let a = c.args in
    let e : Entry = record { key = a.key.now; doc = record { tomb = a.m.tomb; value = a.value.now; numbers = a.m.numbers } } in
    let at = c.in-Some.ensures in
    rw at.1 (put-there a.b.now a.i e a.old at.0 _ (rw at.1 at c.put_row.ensures))

pub returns-in_default : goal.returns-in_default
returns-in_default c =
    let a = c.args in
    let e : Entry = record { key = a.key.now; doc = record { tomb = a.m.tomb; value = a.value.now; numbers = a.m.numbers } } in
    put-nowhere a.b.now a.i e a.old c.in_default.ensures
