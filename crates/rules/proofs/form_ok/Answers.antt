use Rattle.std.proofs.Math.Bool.{and_assoc}
use Rattle.rules.specs.Rules.{form_ok}
use Rattle.rules.proofs.form_ok.Goals as goal

pub returns : goal.returns
unfolding form_ok
returns g c =
    simp (
      c.from.ensures,
      c.from-2.ensures,
      c.extras.ensures,
      c.extras_ok.ensures,
      c.key_fits.ensures,
      c.takes_value.ensures,
      and_assoc,
    )
