use Rattle.ordered_listing.proofs.Walking.{live-read}
use lib.Dec.{eqb}
use mathlib.Core.Bool.{Bool, not, ◌&&◌}
use mathlib.Core.Path.{ap, ◌∙◌}
use Rattle.ordered_listing.proofs.is_live.Goals as goal

pub returns : goal.returns
returns c =
    let a = c.args in
    let kind = c.be16-kind in
    ap (λ (x : Bool). not (eqb kind.result 0) && x) c.alive.ensures ∙ live-read a.clock a.r.now _ _ kind.ensures c.be32.ensures
