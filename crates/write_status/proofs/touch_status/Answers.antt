use Rattle.commands.specs.Rules.{tests_of}
use Rattle.write_status.proofs.touch_status.Goals as goal

pub returns : goal.returns
unfolding tests_of
returns c = simp (c.first_status.ensures, c.is_here.ensures, c.is_long.ensures, c.has_room.ensures, c.is_spent.ensures, c.is_live.ensures, c.passes.ensures)
