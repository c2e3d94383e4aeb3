-- `begin` hands on the opening, all of it.
use mathlib.Core.Path.{refl}
use Rattle.contact_box.proofs.Recording.{hands-opened}
use Rattle.contact_box.proofs.recorder.begin.Goals as goal

pub returns : goal.returns
returns g c = record { fields = hands-opened _ _ c.opened.result c.all.result _ _ c.args.mode c.args.vbucket refl c.put_opening.ensures c.opened.ensures c.all.ensures }
