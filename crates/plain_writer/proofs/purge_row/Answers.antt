use mathlib.Core.Path.{sym, ap, ◌∙◌}
use Prim.Native.Nat.{ℕ}
use lib.ListN.{replicate}
use Rattle.std.proofs.Common.{rules}
use Rattle.document.specs.Stored.{gone_doc}
use Rattle.plain_writer.proofs.Purging.{row-freed, row_kept}
use Rattle.plain_writer.proofs.purge_row.Goals as goal

pub returns-then-gone : goal.returns-then-gone
returns-then-gone c =
    let a = c.args in (
      c.row_gone-gone.ensures,
      c.fill.ensures.after (λ y h. search rules) ∙ ap (λ (n : ℕ). replicate n 0) c.requires
          ∙ sym (row-freed (gone_doc a.clock a.bound.0) a.row.now (sym c.row_gone-gone.ensures ∙ c.if-gone.true)),
    )

pub returns-else-gone : goal.returns-else-gone
returns-else-gone c =
    let a = c.args in
    (c.row_gone-gone.ensures, sym (row_kept (gone_doc a.clock a.bound.0) a.row.now (sym c.row_gone-gone.ensures ∙ c.if-gone.false)))
