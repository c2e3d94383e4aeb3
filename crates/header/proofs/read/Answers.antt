use Rattle.header.specs.Header.{header_of}
use Rattle.header.proofs.read.Goals as goal

pub returns : goal.returns
unfolding header_of
returns c =
    let p8 = c in
    simp (
      p8.byte.ensures,
      c.byte-2.ensures,
      c.be16.ensures,
      c.byte-3.ensures,
      c.byte-4.ensures,
      c.be16-2.ensures,
      c.be32.ensures,
      c.be32-2.ensures,
      c.be64.ensures,
    )
