use Rattle.effects.proofs.touch_done.Goals as goal

pub returns : goal.returns
returns c = simp (c.storing.ensures, c.touch_reply.ensures, c.plain_numbers-numbers.ensures, c.absolute.ensures, c.stored-flags.ensures)
