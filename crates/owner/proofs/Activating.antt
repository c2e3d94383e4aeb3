-- What making a table active answers and leaves, by what the damage test says with the head.
use Prim.Native.Nat.{ℕ}
use native.Mathlib.Omega.{arith}
use mathlib.Core.Path.{◌≡◌, sym, ap, ◌∙◌}
use mathlib.Core.Bool.{true}
use mathlib.Core.List.{List}
use Rattle.octets.specs.Parts.{Bytes, written}
use Rattle.octets.specs.BigEndian.{bytes_of}
use Rattle.octets.proofs.Choices.{cases}
use Rattle.rows.specs.Table.{table_of, table_bytes}
use Rattle.std.specs.Prelude.{Option}
use Rattle.document.specs.declared.Head.{Head}
use Rattle.engine.specs.declared.Config.{Config}
use Rattle.engines.specs.Damage.{sound_by, checked_by}
use Rattle.engines.proofs.Tables.{sound-good-by, state-put}
use Rattle.owning.specs.Owner.{Activated, NotActivated as Damaged, Dead, Active, is_dead, activate_of, activated_table, activated_bytes}
use Rattle.owning.proofs.Activating.{activate-damaged}
use Rattle.owner.specs.Shown.{activation_of}

module _ (config : Config) (b : List ℕ) where
  -- what an answer leaves
  abbrev left_by : Activated → List ℕ
  left_by Damaged = b
  left_by Dead = b
  left_by Active = table_bytes (activated_table (table_of b))

  left_by-answer : activated_bytes config b ≡ left_by (activate_of config b)
  unfolding activate_of activated_bytes
  left_by-answer = cases (sound_by config b) (λ s. cases (is_dead (table_of b).head) (λ d. rw (s, d)) (λ d. rw (s, d))) (λ s. rw s)

  by-checked : activation_of (checked_by config b) ≡ activate_of config b
  unfolding checked_by activate_of table_of
  by-checked = cases (sound_by config b) (λ s. rw s) (λ s. rw s)

  module _ (a : Activated) (c : Option Head) (e : c ≡ checked_by config b) (f : a ≡ activation_of c) where
    pub answers : a ≡ activate_of config b
    answers = f ∙ ap activation_of e ∙ by-checked

    pub leaves : left_by a ≡ activated_bytes config b
    leaves = ap left_by answers ∙ sym left_by-answer

  was-sound : Active ≡ activate_of config b → sound_by config b ≡ true
  was-sound e =
      cases (sound_by config b) (λ t. t)
      (λ f. let d : Active ≡ Damaged = e ∙ (activate-damaged config b f).0 in
      let z : ◌≡◌ {A = ℕ} 0 1 = cc in
      absurd (omega arith))

  -- the state's byte, written alone
  pub makes : (c : Option Head) (s : List ℕ) → Bytes b → c ≡ checked_by config b → Active ≡ activation_of c → s ≡ written b 0 (bytes_of 1 1) → s ≡ activated_bytes config b
  makes c s y e f w =
      let g = sound-good-by config b y (was-sound (answers Active c e f)) in
      w ∙ ap (λ (m : List ℕ). written m 0 (bytes_of 1 1)) (sym g.0) ∙ state-put (table_of b) 1 ∙ leaves Active c e f
