use mathlib.Core.Path.{◌≡◌}
use Prim.Native.Nat.{◌+◌, ◌-◌, ◌*◌, ◌≤◌}
use mathlib.Core.List.{◌++◌}
use lib.ListN.{take, drop}
use Rattle.ordered_writer.specs.Gaps.{closed_bytes}
use Rattle.ordered_writer.proofs.close_rows.Given as goal

abbrev pub invariant-loop-i : goal.invariant-loop-i
invariant-loop-i l =
    (l.to ≤ 16 + l.i * 1312)
    × (take l.to l.b ++ closed_bytes (l.n - l.i) (16 + l.i * 1312 - l.to) (drop (16 + l.i * 1312) l.b) ≡ take 16 l.initial.b ++ closed_bytes l.n 0 (drop 16 l.initial.b))
