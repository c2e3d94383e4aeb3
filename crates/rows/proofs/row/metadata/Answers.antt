use Rattle.rows.specs.Row.{doc_of}
use Rattle.rows.proofs.row.metadata.Goals as goal

pub returns : goal.returns
unfolding doc_of
returns c = rw c.slot-s.ensures
