use Rattle.document.specs.Documents.{Entry}
use mathlib.Core.Path.{sym, ◌∙◌}
use borrow.Author.Tests.{leb-false}
use Rattle.row_writer.proofs.Writes.{other_length, over-one, over-unfit}
use Rattle.row_writer.proofs.put_row.Goals as goal
use Rattle.row_writer.proofs.put_row.Goals.{else-row-eq-ROW-via-then-row-eq-ROW+else-fits, else-row-eq-ROW-via-else-row-eq-ROW}

pub returns-then-fits : goal.returns-then-fits
returns-then-fits c =
    let a = c.args in
    let e : Entry = record { key = a.key.now; doc = record { tomb = a.m.tomb; value = a.value.now; numbers = a.m.numbers } } in
    c.put_entry.ensures ∙ sym (over-one a.row.now e a.old c.if-row-eq-ROW.true)

pub returns-else-row-eq-ROW : goal.returns-else-row-eq-ROW
returns-else-row-eq-ROW c =
    let a = c.args in
    let e : Entry = record { key = a.key.now; doc = record { tomb = a.m.tomb; value = a.value.now; numbers = a.m.numbers } } in
    elim c.else-row-eq-ROW.branch [
      | else-row-eq-ROW-via-then-row-eq-ROW+else-fits w ↦ over-unfit a.row.now e a.old w.if-row-eq-ROW.true (leb-false _ _ (sym w.fits.ensures ∙ w.if-fits.false))
      | else-row-eq-ROW-via-else-row-eq-ROW w ↦ other_length a.row.now e a.old w.if-row-eq-ROW.false
    ]
