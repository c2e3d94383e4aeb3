use mathlib.Core.Path.{◌≡◌, ap, ◌∙◌}
use Prim.Native.Nat.{ℕ}
use native.Mathlib.Omega.{arith}
use mathlib.Core.List.{◌++◌}
use lib.ListN.{take, drop}
use Rattle.rows.specs.Table.{row_count}
use Rattle.ordered_writer.specs.Gaps.{closed_bytes}
use Rattle.ordered_writer.proofs.Closing.{close-none}
use Rattle.ordered_writer.proofs.close_gaps.Goals as goal

pub returns-then-b-lt-HEADER : goal.returns-then-b-lt-HEADER
returns-then-b-lt-HEADER c = close-none c.args.b.now c.if-b-lt-HEADER.true

pub close_rows-requires : goal.close_rows-requires
close_rows-requires c =
    let n : c.rows_in.result ≡ row_count c.args.b.now = c.rows_in.ensures in
    omega (arith, n, c.if-b-lt-HEADER.false)

pub returns : goal.returns
returns c =
    let b = c.args.b.now in
    c.close_rows.ensures ∙ ap (λ (k : ℕ). take 16 b ++ closed_bytes k 0 (drop 16 b)) c.rows_in.ensures
