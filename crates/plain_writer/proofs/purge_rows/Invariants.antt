use Rattle.plain_writer.specs.Change.{purge_bytes, purge_count}
use Rattle.document.specs.Stored.{gone_doc}
use mathlib.Core.List.{◌++◌}
use lib.ListN.{take, drop}
use Prim.Native.Nat.{◌+◌, ◌-◌, ◌*◌, ◌≤◌}
use mathlib.Core.Path.{◌≡◌}
use Rattle.plain_writer.proofs.purge_rows.Given as goal

abbrev pub invariant-loop-i : goal.invariant-loop-i
invariant-loop-i l =
    (l.count ≤ l.i)
    × (l.count + purge_count (gone_doc l.clock l.bound.0) (l.n - l.i) (drop (16 + l.i * 1312) l.b) ≡ purge_count (gone_doc l.clock l.bound.0) l.n (drop 16 l.initial.b))
    × (take (16 + l.i * 1312) l.b ++ purge_bytes (gone_doc l.clock l.bound.0) (l.n - l.i) (drop (16 + l.i * 1312) l.b) ≡ take 16 l.initial.b ++ purge_bytes (gone_doc l.clock l.bound.0) l.n (drop 16 l.initial.b))
