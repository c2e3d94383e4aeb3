-- `shape::shape_of` meets its contract: the table's rule is one computed test over all 256 entries.
use Rattle.std.proofs.Common.{◌≡◌, refl, ◌∙◌, map, arith}
use Rattle.shape.specs.declared.TheConstants.{OPERATIONS}
use Rattle.shape.specs.Shapes.{commands, shape_of}
use Rattle.shape.specs.Table.{operations, numbered, entry_shape, build, at_each}
use Rattle.shape.proofs.shape_of.Goals as goal

rule : map entry_shape OPERATIONS ≡ build shape_of 0 256
unfolding commands operations numbered build shape_of
rule = refl

pub returns : goal.returns
returns c = c.shape_by.ensures ∙ at_each entry_shape OPERATIONS 256 rule c.args.opcode (omega arith)
