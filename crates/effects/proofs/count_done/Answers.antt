use Rattle.effects.proofs.count_done.Goals as goal

pub returns-then-is_live : goal.returns-then-is_live
returns-then-is_live c =
    simp (c.counted.ensures, c.sum.ensures, ← c.is_live.ensures, c.if-is_live.true, c.stored-stored.ensures)

pub returns-else-is_live : goal.returns-else-is_live
returns-else-is_live c =
    simp (c.counted-else-is_live.ensures, c.absolute.ensures, ← c.is_live.ensures, c.if-is_live.false)
