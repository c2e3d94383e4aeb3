use Prim.Native.Nat.{◌+◌, ◌*◌}
use Rattle.rows.specs.Row.{slot_of}
use Rattle.rows.proofs.OneRow.{row_cut}
use Rattle.table.proofs.Placed.{row-held}
use Rattle.table.proofs.held.Goals as goal

pub returns : goal.returns
unfolding slot_of
returns c = let a = c.args in
    row-held a.b.now _ a.k a.i _ _ c.requires.0 (row_cut a.b.now (16 + a.i * 1312)) c.metadata.ensures c.be32.ensures
