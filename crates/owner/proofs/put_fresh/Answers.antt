use Rattle.owner.proofs.Making.{fresh-put}
use Rattle.owner.proofs.put_fresh.Goals as goal

pub returns : goal.returns
returns c =
    let a = c.args in
    fresh-put a.s.now c.put_head.new.b c.put_zeros.new.out a.rows a.state a.mode a.vbucket c.requires.0 c.put_head.ensures
    c.put_zeros.ensures
