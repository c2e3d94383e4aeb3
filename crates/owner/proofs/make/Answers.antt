use Rattle.owner.proofs.Making.{refused, accepted, in-range}
use lib.ListN.{length}
use mathlib.Core.Path.{sym, ◌∙◌}
use Rattle.owner.proofs.make.Goals as goal

pub returns-then-not-make_ok : goal.returns-then-not-make_ok
returns-then-not-make_ok c =
    let a = c.args in
    refused a.s.now a.rows a.state a.mode a.vbucket (sym c.make_ok.ensures ∙ c.if-not-make_ok.true)

pub put_fresh-requires : goal.put_fresh-requires
put_fresh-requires c =
    let a = c.args in
    let r = in-range (length a.s.now) a.rows a.state a.mode (sym c.make_ok.ensures ∙ c.if-not-make_ok.false) in
    (r.size, r.most)

pub returns : goal.returns
returns c =
    let a = c.args in
    let m = accepted a.s.now a.rows a.state a.mode a.vbucket (sym c.make_ok.ensures ∙ c.if-not-make_ok.false) in
    (m.0, c.put_fresh.ensures ∙ m.1)
