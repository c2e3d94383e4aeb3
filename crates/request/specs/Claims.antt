-- What is claimed of the reader, over any bytes. The proof is in proofs/Outcomes.antt.
use Rattle.std.specs.Prelude.{ℕ, ◌≡◌, List}
use Rattle.request.specs.Reading.{gate_outcome, reading_outcome, gate_of, reading}

-- "outcomes and statuses kept apart": the reader's outcome is the gate's, and 0 where it gives a status
abbrev pub GateDecides : Type 0
GateDecides = (s : List ℕ) → reading_outcome (reading s) ≡ gate_outcome (gate_of s)
