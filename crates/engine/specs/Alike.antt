-- Two engines whose rows hold the same documents can't be told apart by what they find, by room or by how many rows a purge frees, whatever the order of their rows. Proved in proofs/Alike.antt.
use Rattle.std.specs.Prelude.{◌≡◌, Bool, ◌-◌}
use Rattle.document.specs.Documents.{Key, Doc}
use Rattle.engine.specs.Engine.{Engine, Laws, Room}

-- as many rows, with the same document for every key
pub record Alike (E F : Engine) (r : E.Rows) (s : F.Rows) : Type 0 where
  pub good : E.Good r
  pub other-good : F.Good s
  pub find : (k : Key) → E.find r k ≡ F.find s k
  pub size : E.size r ≡ F.size s

pub record StaysAlike (E F : Engine) : Type 0 where
  -- so 0x82 is answered alike
  pub free : (r : E.Rows) (s : F.Rows) → Alike E F r s → E.free r ≡ F.free s
  pub put : (r : E.Rows) (s : F.Rows) (k : Key) (d : Doc) → Alike E F r s → Room E r k → Alike E F (E.put r k d) (F.put s k d)
  pub purge : (r : E.Rows) (s : F.Rows) (p : Doc → Bool) → Alike E F r s → Alike E F (E.purge r p) (F.purge s p)
  pub freed : (r : E.Rows) (s : F.Rows) (p : Doc → Bool) → Alike E F r s
      → E.free (E.purge r p) - E.free r ≡ F.free (F.purge s p) - F.free s

abbrev pub LawsSuffice : Type 1
LawsSuffice = (E F : Engine) → Laws E → Laws F → StaysAlike E F
