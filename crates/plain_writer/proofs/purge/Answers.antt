use mathlib.Core.Path.{◌≡◌, ap, ◌∙◌}
use Prim.Native.Nat.{ℕ}
use native.Mathlib.Omega.{arith}
use mathlib.Core.List.{◌++◌}
use lib.ListN.{take, drop}
use Rattle.rows.specs.Table.{row_count}
use Rattle.plain_writer.specs.Change.{purge_bytes, purge_count}
use Rattle.document.specs.Stored.{gone_doc}
use Rattle.plain_writer.proofs.Purging.{purge-none}
use Rattle.plain_writer.proofs.purge.Goals as goal

pub returns-then-b-lt-HEADER : goal.returns-then-b-lt-HEADER
returns-then-b-lt-HEADER c = purge-none (gone_doc c.args.clock c.args.bound.0) c.args.b.now c.if-b-lt-HEADER.true

pub purge_rows-requires : goal.purge_rows-requires
purge_rows-requires c = let n : c.rows_in.result ≡ row_count c.args.b.now = c.rows_in.ensures in omega (arith, n, c.if-b-lt-HEADER.false)

pub returns : goal.returns
returns c =
    let b = c.args.b.now in
    let p = gone_doc c.args.clock c.args.bound.0 in (
      c.purge_rows.ensures.0 ∙ ap (λ (k : ℕ). purge_count p k (drop 16 b)) c.rows_in.ensures,
      c.purge_rows.ensures.1
          ∙ ap (λ (k : ℕ). take 16 b ++ purge_bytes p k (drop 16 b)) c.rows_in.ensures,
    )
