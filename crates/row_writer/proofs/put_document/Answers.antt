use Rattle.row_writer.proofs.Writes.{update-zeroed, update-longer}
use Rattle.row_writer.proofs.put_document.Goals as goal

pub returns-then-v-old : goal.returns-then-v-old
returns-then-v-old c =
    let a = c.args in
    update-zeroed a.row.now a.k a.m a.value.now a.old c.requires.1 _ _ c.put_fixed.ensures c.put_bytes.ensures _ c.put_zeros.ensures

pub returns-else-v-old : goal.returns-else-v-old
returns-else-v-old c =
    let a = c.args in
    update-longer a.row.now a.k a.m a.value.now a.old c.requires.1 _ _ c.put_fixed.ensures c.put_bytes.ensures c.requires.0 c.if-v-old.false
