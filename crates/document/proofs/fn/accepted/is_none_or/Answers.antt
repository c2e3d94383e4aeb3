use Rattle.document.proofs.fn.accepted.is_none_or.Goals as goal

pub returns : goal.returns
returns c = c.greater.ensures
