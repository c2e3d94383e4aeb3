use Rattle.commands.specs.Rules.{tests_of}
use Rattle.read_status.proofs.get_status.Goals as goal

pub returns : goal.returns
unfolding tests_of
returns c = simp (c.first_status.ensures, c.is_live.ensures, c.is_here.ensures, c.is_long.ensures)
