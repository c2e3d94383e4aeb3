use Rattle.shape.proofs.ShapeNumbersShapeCode.stored.Goals as goal

pub returns : goal.returns
returns c = c.stored.ensures
