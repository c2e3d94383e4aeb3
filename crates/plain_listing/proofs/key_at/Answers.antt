use Prim.Native.Nat.{◌+◌, ◌-◌, ◌*◌}
use mathlib.Core.Path.{◌∙◌}
use Rattle.octets.specs.Parts.{part}
use Rattle.rows.proofs.OneRow.{row_cut}
use Rattle.plain_listing.proofs.Listed.{key-cut}
use Rattle.plain_listing.proofs.key_at.Goals as goal

pub returns : goal.returns
returns c =
    let a = c.args in
    let at = 16 + a.i * 1312 in
    c.key.ensures ∙ key-cut a.b.now (part a.b.now at (at + 1312 - at)) a.i c.requires (row_cut a.b.now at)
