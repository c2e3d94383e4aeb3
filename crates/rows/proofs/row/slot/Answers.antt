use Rattle.rows.specs.Row.{slot_of}
use Rattle.rows.proofs.row.slot.Goals as goal

pub returns : goal.returns
unfolding slot_of
returns c =
    simp (
      c.be16.ensures,
      c.be16-2.ensures,
      c.be32.ensures,
      c.be32-2.ensures,
      c.be32-3.ensures,
      c.be64.ensures,
      c.be64-2.ensures,
    )
