-- `make_table` isn't refused, so the table is the fresh one.
use mathlib.Core.Path.{ap, ◌∙◌}
use Prim.Native.Nat.{ℕ}
use Rattle.owning.specs.Owner.{made}
use Rattle.contact_box.specs.Arguments.{mode_number}
use Rattle.contact_box.proofs.Tables.{made-fresh}
use Rattle.contact_box.proofs.make_table.Goals as goal

pub returns : goal.returns
returns c =
    let setup = c.args.setup in
    made-fresh setup.rows (mode_number setup.mode) c.requires.1 c.args.table.now _ setup.vbucket c.requires.0
    (c.make.ensures.1 ∙ ap (λ (m : ℕ). made c.args.table.now setup.rows 1 m setup.vbucket) c.number.ensures)
