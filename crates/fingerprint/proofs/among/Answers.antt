use Rattle.std.proofs.Common.{◌∙◌}
use Rattle.fingerprint.proofs.Mixing.{among-any}
use Rattle.fingerprint.proofs.among.Goals as goal

pub returns : goal.returns
returns c = c.contains.ensures.value ∙ among-any c.args.p c.args.prints.now
