use Rattle.with_meta.proofs.StoredLaws.{told-ok}
use Rattle.with_meta.proofs.with_meta_ok.Goals as goal

pub returns : goal.returns
returns g c = simp (c.stored_ok.ensures, c.stored.ensures, told-ok)
