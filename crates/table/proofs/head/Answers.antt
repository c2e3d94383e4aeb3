use Rattle.rows.specs.Table.{head_of}
use Rattle.table.proofs.head.Goals as goal

pub returns : goal.returns
unfolding head_of
returns c = simp (c.byte.ensures, c.byte-2.ensures, c.be16.ensures, c.be32.ensures, c.be64.ensures)
