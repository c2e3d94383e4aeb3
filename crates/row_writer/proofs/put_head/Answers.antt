use Rattle.row_writer.proofs.Writes.{head-unfit, head-put}
use Rattle.row_writer.proofs.put_head.Goals as goal

pub returns-then-b-lt-HEADER : goal.returns-then-b-lt-HEADER
returns-then-b-lt-HEADER c = head-unfit c.args.b.now c.args.h c.if-b-lt-HEADER.true

pub returns : goal.returns
returns c =
    head-put c.args.b.now c.put_be.new.out c.put_be-2.new.out c.put_be-3.new.out c.put_be-4.new.out c.put_be-5.new.out
    c.args.h c.if-b-lt-HEADER.false
    c.put_be.ensures c.put_be-2.ensures c.put_be-3.ensures c.put_be-4.ensures c.put_be-5.ensures
