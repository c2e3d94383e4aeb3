use Rattle.replay.proofs.ruled_by.Goals as goal

pub returns : goal.returns
returns c = λ i. record { engine = c.args.config.engine; forcing = c.forcing_in.ensures i }
