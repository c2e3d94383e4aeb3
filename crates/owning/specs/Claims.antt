-- Order 9, of the owner call that makes a table active: "Replica and pending tables now take no write; a new owner call makes one active, leaves an active one, and changes nothing but the state. It answers 5 on a damaged table and 0x07 on a dead one." Proved in proofs/Activating.antt.
use Rattle.std.specs.Prelude.{ℕ, ◌≡◌, true, false, List, ◌∷◌, length, drop}
use Rattle.octets.specs.Parts.{Bytes}
use Rattle.rows.specs.Table.{table_of}
use Rattle.engine.specs.declared.Config.{Config}
use Rattle.engines.specs.Damage.{sound_by}
use Rattle.owning.specs.Owner.{activate_outcome, activate_status, activate_of, activated_bytes}

-- what a call answers, by outcome and status, and the memory after it
pub record ActivateAnswers (config : Config) (b : List ℕ) (outcome status : ℕ) (after : List ℕ) : Type 0 where
  pub outcome-is : activate_outcome (activate_of config b) ≡ outcome
  pub status-is : activate_status (activate_of config b) ≡ status
  pub memory : activated_bytes config b ≡ after

-- "It answers 5 on a damaged table", and changes nothing
abbrev pub ActivateDamaged : Type 0
ActivateDamaged = (config : Config) (b : List ℕ) → sound_by config b ≡ false → ActivateAnswers config b 5 0 b

-- "and 0x07 on a dead one", and changes nothing
abbrev pub ActivateDead : Type 0
ActivateDead = (config : Config) (b : List ℕ) → sound_by config b ≡ true → (table_of b).head.state ≡ 4 → ActivateAnswers config b 0 0x07 b

-- "leaves an active one"
abbrev pub ActivateActive : Type 0
ActivateActive = (config : Config) (b : List ℕ) → Bytes b → sound_by config b ≡ true → (table_of b).head.state ≡ 1 → ActivateAnswers config b 0 0 b

-- the table in these bytes is sound and active, and but for its state the one in those
pub record SameButActive (config : Config) (b after : List ℕ) : Type 0 where
  pub undamaged : sound_by config after ≡ true
  pub state : (table_of after).head.state ≡ 1
  pub mode : (table_of after).head.mode ≡ (table_of b).head.mode
  pub vbucket : (table_of after).head.vbucket ≡ (table_of b).head.vbucket
  pub clock : (table_of after).head.clock ≡ (table_of b).head.clock
  pub mark : (table_of after).head.mark.0 ≡ (table_of b).head.mark.0
  pub rows : (table_of after).rows ≡ (table_of b).rows

-- "makes one active": any sound table that isn't dead has a 1 for its first byte after it, and no other byte changes
abbrev pub ActivateMakes : Type 0
ActivateMakes =
    (config : Config) (b : List ℕ) → Bytes b → sound_by config b ≡ true → ((table_of b).head.state ≡ 4 → ⊥)
    → ActivateAnswers config b 0 0 (1 ∷ drop 1 b) × SameButActive config b (activated_bytes config b)

-- "changes nothing but the state", on any memory: not its size, and no byte after the first
abbrev pub ActivateKeeps : Type 0
ActivateKeeps = (config : Config) (b : List ℕ) → Bytes b → (length (activated_bytes config b) ≡ length b) × (drop 1 (activated_bytes config b) ≡ drop 1 b)

-- a second call answers as the first, and changes nothing
abbrev pub ActivateTwice : Type 0
ActivateTwice =
    (config : Config) (b : List ℕ) → Bytes b
    → (activate_of config (activated_bytes config b) ≡ activate_of config b) × (activated_bytes config (activated_bytes config b) ≡ activated_bytes config b)
