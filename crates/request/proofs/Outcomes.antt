-- The claim of specs/Claims.antt: the reader's outcome is the gate's.
use Prim.Native.Nat.{ℕ}
use mathlib.Core.Path.{◌≡◌, refl}
use mathlib.Core.List.{List}
use lib.Dec.{eqb}
use Rattle.octets.proofs.Choices.{cases}
use Rattle.request.specs.Reading.{Gate, Stop, Whole, gate_outcome, reading_outcome, gate_of, gated, frame_status, whole_reading, reading}
use Rattle.request.specs.Claims.{GateDecides}

gated-outcome : (s : List ℕ) (w : Gate) → reading_outcome (gated s w) ≡ gate_outcome w
unfolding whole_reading
gated-outcome s (Stop n need) = refl
gated-outcome s (Whole h) = cases (eqb (frame_status s h) 0) (λ t. rw t) (λ t. rw t)

pub gate-decides : GateDecides
unfolding reading
gate-decides s = gated-outcome s (gate_of s)
