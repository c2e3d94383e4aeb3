-- A refused call leaves the tally as it was.
use mathlib.Core.Path.{refl}
use Rattle.serving.specs.Serve.{Refused, Done}
use Rattle.tally.specs.Counts.{counted_of}
use Rattle.tally.specs.Claims.{TallyRefused}

pub tally-refused : TallyRefused
unfolding counted_of
tally-refused t (Refused n need) z = refl
tally-refused t (Done status used len) z = absurd (z refl)
