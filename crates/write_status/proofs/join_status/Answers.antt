use Rattle.commands.specs.Rules.{tests_of}
use Rattle.write_status.proofs.join_status.Goals as goal

pub returns : goal.returns
unfolding tests_of
returns c = simp (c.first_status.ensures, c.is_here.ensures, c.is_long.ensures, c.has_room.ensures, c.is_spent.ensures, c.over.ensures, c.stored.ensures, c.is_live-live.ensures, c.is_guarded-guard.ensures)
