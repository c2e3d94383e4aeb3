-- "nothing consumed; table, tally, reply unchanged": a refused call counts nowhere, so that a store which counts it as a frame with another status isn't this one.
use Rattle.std.specs.Prelude.{◌≡◌}
use Rattle.serving.specs.Serve.{Served, served_outcome}
use Rattle.tally.specs.declared.Tally.{Tally}
use Rattle.tally.specs.Counts.{counted_of}

abbrev pub TallyRefused : Type 0
TallyRefused = (t : Tally) (r : Served) → (served_outcome r ≡ 0 → ⊥) → counted_of t r ≡ t
