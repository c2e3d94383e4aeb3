-- `paste_be` meets its contract: what is left of the number, pasted into what stands, is the number pasted.
use Rattle.octets.proofs.Numbers.{be-last, be-done}
use mathlib.Core.Path.{sym, ◌∙◌}
use native.Mathlib.Omega.{arith}
use Rattle.octet_writer.proofs.paste_be.Goals as goal

pub loop-k-preserved : goal.loop-k-preserved
loop-k-preserved c =
    let l = c.loop-k in
    l.invariant ∙ be-last l.out c.args.at l.k l.left c.loop-k-test.true (omega arith)

pub returns : goal.returns
returns c =
    let l = c.loop-k in
    sym (l.invariant ∙ be-done l.out c.args.at l.k l.left c.loop-k-test.false (omega arith))
