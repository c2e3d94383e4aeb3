-- Order 7: a trace is replayed alike on both engines, row places aside. Proved in proofs/Alike.antt.
use Rattle.std.specs.Prelude.{ℕ, ◌≡◌, List, length}
use Rattle.engine.specs.declared.Config.{Config}
use Rattle.octets.specs.Parts.{Bytes}
use Rattle.replay.specs.Replay.{replayed}
use Rattle.agreement.specs.Agreement.{SameTable}
use Rattle.voyages.specs.Spelling.{WellOpened}

pub record ReplayedAlike (config other : Config) (b trace : List ℕ) : Type 0 where
  -- so a trace that was recorded on one engine is judged the same on the other
  pub answer : (replayed config b trace).answer ≡ (replayed other b trace).answer
  -- a replay that doesn't begin leaves the lent memory as it was, on either: `BadOpeningStops`, `OtherSizeRefused`
  pub tables : length b ≡ 42000 → WellOpened trace → SameTable config other (replayed config b trace).table (replayed other b trace).table

-- it rules out a replay that purges or serves on one engine what it doesn't on the other, and one whose frames' replies follow the order of the rows
abbrev pub ReplaysAlike : Type 0
ReplaysAlike = (config other : Config) (b trace : List ℕ) → Bytes trace → ReplayedAlike config other b trace
