use mathlib.Core.Path.{sym, ◌∙◌}
use borrow.Author.Tests.{leb-false}
use Rattle.row_writer.proofs.Writes.{update_other, update-one, update-unfit}
use Rattle.row_writer.proofs.update_row.Goals as goal
use Rattle.row_writer.proofs.update_row.Goals.{else-row-eq-ROW-via-then-row-eq-ROW+else-fits, else-row-eq-ROW-via-else-row-eq-ROW}

pub returns-then-fits : goal.returns-then-fits
returns-then-fits c =
    let a = c.args in
    c.put_document.ensures ∙ sym (update-one a.row.now a.k a.m a.value.now a.old c.if-row-eq-ROW.true)

pub returns-else-row-eq-ROW : goal.returns-else-row-eq-ROW
returns-else-row-eq-ROW c =
    let a = c.args in
    elim c.else-row-eq-ROW.branch [
      | else-row-eq-ROW-via-then-row-eq-ROW+else-fits w ↦ update-unfit a.row.now a.k a.m a.value.now a.old w.if-row-eq-ROW.true (leb-false _ _ (sym w.fits.ensures ∙ w.if-fits.false))
      | else-row-eq-ROW-via-else-row-eq-ROW w ↦ update_other a.row.now a.k a.m a.value.now a.old w.if-row-eq-ROW.false
    ]
