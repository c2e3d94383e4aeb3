use Prim.Native.Nat.{◌-◌, ◌≤◌}
use mathlib.Core.Path.{◌≡◌}
use mathlib.Core.Bool.{true}
use mathlib.Core.List.{[]}
use lib.ListN.{length, drop}
use Rattle.engines.specs.Damage.{sound_by}
use Rattle.trace.specs.Trace.{fields_from, fields_in}
use Rattle.replay.specs.Replay.{walked}
use Rattle.replay.specs.Turns.{voyage_of}
use Rattle.replay.proofs.replay_fields.Given as goal

abbrev pub invariant-loop-p : goal.invariant-loop-p
invariant-loop-p l =
    (length l.b ≡ length l.initial.b) × ((length l.out ≡ length l.initial.out) × ((l.p.at ≤ length l.trace) × ((l.p.frames ≤ l.p.at)
    × ((walked l.config (voyage_of l.b l.out l.p) (fields_from l.p.at (drop l.p.at l.trace))
    ≡ walked l.config (record { table = l.initial.b; clock = 0; frames = 0; reply = [] }) (fields_in l.trace)) × (sound_by l.config l.b ≡ true)))))

abbrev pub decreases-loop-p : goal.decreases-loop-p
decreases-loop-p l = length l.trace - l.p.at
