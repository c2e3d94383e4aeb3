-- What the damage test says with the head, whichever engine a call is for.
use Prim.Native.Nat.{ℕ}
use mathlib.Core.Path.{◌≡◌}
use mathlib.Core.Bool.{true, false}
use mathlib.Core.List.{List}
use Rattle.document.specs.declared.Head.{Head}
use Rattle.std.specs.Prelude.{Some, None}
use Rattle.engine.specs.declared.Config.{Config}
use Rattle.rows.specs.Table.{head_of}
use Rattle.plain.proofs.Checks.{tells-damaged, tells-sound}
use Rattle.engines.specs.Damage.{sound_by, checked_by}

module _ (config : Config) (b : List ℕ) where
  pub damaged-by : checked_by config b ≡ None → sound_by config b ≡ false
  unfolding checked_by
  damaged-by e = tells-damaged (sound_by config b) (head_of b) e

  pub sound-by : (h : Head) → checked_by config b ≡ Some h → (sound_by config b ≡ true) × (h ≡ head_of b)
  unfolding checked_by
  sound-by h e = tells-sound (sound_by config b) (head_of b) h e
