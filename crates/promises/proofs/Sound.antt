-- The table stays sound under serving.
use Rattle.engine.specs.declared.Config.{Config}
use Rattle.serving.proofs.Sound.{stays-sound as stays}
use Rattle.promises.specs.Table.{StaysSound}

pub stays-sound : (config : Config) → StaysSound config
stays-sound config b clock s room y z c e = stays config b clock s y z c e room
