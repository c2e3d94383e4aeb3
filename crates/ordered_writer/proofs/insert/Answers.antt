use mathlib.Core.Path.{sym, ap, ◌∙◌}
use Rattle.document.specs.Documents.{Entry}
use Rattle.ordered_writer.specs.Insertion.{inserted_by}
use Rattle.ordered_writer.proofs.insert.Goals as goal

pub returns-in-Some : goal.returns-in-Some
returns-in-Some c =
    let a = c.args in
    let e : Entry = record { key = a.key.now; doc = record { tomb = a.m.tomb; value = a.value.now; numbers = a.m.numbers } } in
    c.insert_row.ensures ∙ ap (inserted_by a.b.now a.i e) (sym c.in-Some.is ∙ c.free.ensures)

pub returns-in_default : goal.returns-in_default
returns-in_default c =
    let a = c.args in
    let e : Entry = record { key = a.key.now; doc = record { tomb = a.m.tomb; value = a.value.now; numbers = a.m.numbers } } in
    ap (inserted_by a.b.now a.i e) (sym c.in_default.is ∙ c.free.ensures)
