use Prim.Native.Nat.{◌≤◌}
use mathlib.Core.Path.{◌≡◌}
use mathlib.Core.Bool.{true}
use lib.ListN.{length}
use Rattle.octets.specs.Parts.{Bytes}
use Rattle.engines.specs.Damage.{sound_by}
use Rattle.run.specs.Run.{Stand, begun}
use Rattle.run.specs.Frames.{frames_from, step_at, serve_at}
use Rattle.run.proofs.serve_frames.Given as goal

-- the frames that are left, from what stands now; where the table was not damaged, it isn't
abbrev pub invariant-loop-frame : goal.invariant-loop-frame
invariant-loop-frame l =
    let now : Stand = record { table = l.b; reply = l.out; tally = l.tally; at = l.cursor.at; filled = l.filled } in
    (length l.b ≡ length l.initial.b) × ((length l.out ≡ length l.initial.out) × ((l.cursor.at ≤ length l.run) × ((l.filled ≤ length l.out) × (Bytes l.b
    × ((frames_from (step_at l.config l.clock l.run) l.left now ≡ frames_from (step_at l.config l.clock l.run) l.more (begun l.initial.b l.initial.out l.initial.tally))
    × (sound_by l.config l.initial.b ≡ true
    → (sound_by l.config l.b ≡ true) × (frames_from (serve_at l.config l.clock l.run) l.left now ≡ frames_from (serve_at l.config l.clock l.run) l.more (begun l.initial.b l.initial.out l.initial.tally))))))))

abbrev pub decreases-loop-frame : goal.decreases-loop-frame
decreases-loop-frame l = l.left
