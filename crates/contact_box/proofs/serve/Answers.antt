-- `serve` lends what the table takes, which the memory has.
use native.Mathlib.Omega.{arith}
use Prim.Native.Nat.{ℕ, ◌≤◌}
use mathlib.Core.List.{List}
use mathlib.Core.Path.{◌≡◌, sym, ◌∙◌}
use lib.ListN.{length}
use lib.Seq.{length-take-le}
use Rattle.owning.specs.Owner.{size_of}
use Rattle.contact_box.specs.Arguments.{Makes, mode_number}
use Rattle.contact_box.proofs.Tables.{size-most}
use Rattle.contact_box.proofs.serve.Goals as goal

-- the table stands inside the memory
fits : (rows mode size : ℕ) → Makes rows mode → size ≡ size_of rows → (memory : List ℕ) → 335888 ≡ length memory → size ≤ length memory
fits rows mode size m e memory f = omega (arith, size-most rows mode m)

pub slice_bounds-memory-end : goal.slice_bounds-memory-end
slice_bounds-memory-end g c = fits c.args.setup.rows (mode_number c.args.setup.mode) c.size-size.result c.requires c.size-size.ensures c.memory-memory.result c.memory-memory.ensures

pub slice_bounds-table-end : goal.slice_bounds-table-end
slice_bounds-table-end g c =
    let memory = c.memory-memory.result in
    sym (length-take-le c.size-size.result memory (fits c.args.setup.rows (mode_number c.args.setup.mode) c.size-size.result c.requires c.size-size.ensures memory c.memory-memory.ensures))

pub make_table-requires : goal.make_table-requires
make_table-requires g c =
    let memory = c.memory-memory.result in
    let size = c.size-size in
    (length-take-le size.result memory (fits c.args.setup.rows (mode_number c.args.setup.mode) size.result c.requires size.ensures memory c.memory-memory.ensures) ∙ size.ensures, c.requires)
