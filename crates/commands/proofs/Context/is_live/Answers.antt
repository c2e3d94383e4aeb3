use Rattle.commands.proofs.Context.is_live.Goals as goal

pub returns : goal.returns
returns c = c.live.ensures
