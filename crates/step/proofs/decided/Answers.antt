use mathlib.Core.Path.{◌∙◌}
use lib.ListN.{length}
use Rattle.decision.specs.Decision.{decision}
use Rattle.step.proofs.decided.Goals as goal

pub returns : goal.returns
returns c =
    let a = c.args in
    c.decide.ensures ∙ (λ i. decision (record {
      head = a.head;
      row = a.l.stored;
      free = c.has_place.ensures i;
      clock = a.clock;
      number = c.parse.ensures i;
      size = length a.old.now;
    }) a.ask)
