use native.Mathlib.Omega.{arith}
use Rattle.ordered_writer.proofs.Closing.{copied}
use Rattle.ordered_writer.proofs.copy_row.Goals as goal

pub returns : goal.returns
returns c =
    let a = c.args in
    copied a.b.now _ _ a.at a.to (omega arith) (omega arith) c.copy_from_slice.ensures.after c.put_bytes.ensures
