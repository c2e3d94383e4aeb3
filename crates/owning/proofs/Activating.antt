-- Making a table active: what it answers and leaves, by the damage test and the state.
use Prim.Native.Nat.{ℕ}
use native.Mathlib.Omega.{arith}
use mathlib.Core.Path.{◌≡◌, refl, sym, ap, ◌∙◌}
use mathlib.Core.Bool.{true, false}
use mathlib.Core.List.{List, ◌∷◌}
use lib.ListN.{length, drop}
use lib.Dec.{eqb}
use borrow.Author.Tests.{eq-eqb, ne_eqb}
use Rattle.octets.specs.Parts.{Bytes}
use Rattle.octets.specs.BigEndian.{bytes_of}
use Rattle.octets.proofs.Choices.{cases}
use Rattle.rows.specs.Table.{Table, table_of, head_bytes, table_bytes}
use Rattle.engine.specs.declared.Config.{Config}
use Rattle.engines.specs.Damage.{sound_by}
use Rattle.engines.specs.Claims.{GoodBy}
use Rattle.engines.proofs.Tables.{sound-good-by, good-sound-by, state-good-by}
use Rattle.owning.specs.Owner.{Activated, NotActivated as Damaged, Dead, Active, is_dead, activate_outcome, activate_status, activate_of, activated_table, activated_bytes}
use Rattle.owning.specs.Claims.{ActivateAnswers, SameButActive, ActivateDamaged, ActivateDead, ActivateActive, ActivateMakes, ActivateKeeps, ActivateTwice}

-- ---- by the damage test and the state
module _ (config : Config) (b : List ℕ) where
  pub activate-damaged : sound_by config b ≡ false → (activate_of config b ≡ Damaged) × (activated_bytes config b ≡ b)
  unfolding activate_of activated_bytes
  activate-damaged s = (rw s, rw s)

  pub activate-dead : sound_by config b ≡ true → is_dead (table_of b).head ≡ true → (activate_of config b ≡ Dead) × (activated_bytes config b ≡ b)
  unfolding activate_of activated_bytes
  activate-dead s d = (rw (s, d), rw (s, d))

  pub activate-sound : sound_by config b ≡ true → is_dead (table_of b).head ≡ false
      → (activate_of config b ≡ Active) × (activated_bytes config b ≡ table_bytes (activated_table (table_of b)))
  unfolding activate_of activated_bytes
  activate-sound s d = (rw (s, d), rw (s, d))

-- ---- a good table
module _ (config : Config) (t : Table) (g : GoodBy config t) where
  pub active-good : GoodBy config (activated_table t)
  active-good = state-good-by config t _ g (omega arith, omega arith)

  pub good-dead : is_dead t.head ≡ true → (activate_of config (table_bytes t) ≡ Dead) × (activated_bytes config (table_bytes t) ≡ table_bytes t)
  good-dead d =
      let (s, back) = good-sound-by config t g in
      activate-dead config (table_bytes t) s (ap (λ (x : Table). is_dead x.head) back ∙ d)

  pub good-active : is_dead t.head ≡ false → (activate_of config (table_bytes t) ≡ Active) × (activated_bytes config (table_bytes t) ≡ table_bytes (activated_table t))
  good-active d =
      let (s, back) = good-sound-by config t g in
      let (e, f) = activate-sound config (table_bytes t) s (ap (λ (x : Table). is_dead x.head) back ∙ d) in
      (e, f ∙ ap (λ (x : Table). table_bytes (activated_table x)) back)

-- in state 1 it is the same table
already : (t : Table) → t.head.state ≡ 1 → activated_table t ≡ t
already t e =
    λ i. record {
      head = record { state = sym e i; mode = t.head.mode; vbucket = t.head.vbucket; clock = t.head.clock; mark = t.head.mark };
      rows = t.rows;
    }

-- its first byte is 1, and no other byte is another
first_byte : (t : Table) → table_bytes (activated_table t) ≡ 1 ∷ drop 1 (table_bytes t)
unfolding table_bytes head_bytes bytes_of
first_byte t = refl

same_size : (t : Table) → length (table_bytes (activated_table t)) ≡ length (table_bytes t)
unfolding table_bytes head_bytes bytes_of
same_size t = refl

-- ---- the claims
answered : (config : Config) (b after : List ℕ) (a : Activated) → (activate_of config b ≡ a) × (activated_bytes config b ≡ after)
    → ActivateAnswers config b (activate_outcome a) (activate_status a) after
answered config b after a (e, f) = record { outcome-is = ap activate_outcome e; status-is = ap activate_status e; memory = f }

pub damaged-stays : ActivateDamaged
damaged-stays config b s = answered config b b Damaged (activate-damaged config b s)

pub dead-stays : ActivateDead
dead-stays config b s e = answered config b b Dead (activate-dead config b s (eq-eqb (table_of b).head.state 4 e))

-- sound memory that isn't dead
module _ (config : Config) (b : List ℕ) (y : Bytes b) (s : sound_by config b ≡ true) (d : is_dead (table_of b).head ≡ false) where
  abbrev t : Table
  t = table_of b

  back : table_bytes t ≡ b
  back = (sound-good-by config b y s).0

  good : GoodBy config (activated_table t)
  good = active-good config t (sound-good-by config b y s).1

  after : activated_bytes config b ≡ table_bytes (activated_table t)
  after = (activate-sound config b s d).1

  one_byte : activated_bytes config b ≡ 1 ∷ drop 1 b
  one_byte = after ∙ first_byte t ∙ ap (λ (m : List ℕ). 1 ∷ drop 1 m) back

  made : table_of (activated_bytes config b) ≡ activated_table t
  made = ap table_of after ∙ (good-sound-by config (activated_table t) good).1

  same-but-active : SameButActive config b (activated_bytes config b)
  same-but-active = record {
    undamaged = ap (sound_by config) after ∙ (good-sound-by config (activated_table t) good).0;
    state = ap (λ (x : Table). x.head.state) made;
    mode = ap (λ (x : Table). x.head.mode) made;
    vbucket = ap (λ (x : Table). x.head.vbucket) made;
    clock = ap (λ (x : Table). x.head.clock) made;
    mark = ap (λ (x : Table). x.head.mark.0) made;
    rows = ap (λ (x : Table). x.rows) made;
  }

  keeps : (length (activated_bytes config b) ≡ length b) × (drop 1 (activated_bytes config b) ≡ drop 1 b)
  keeps = (ap length after ∙ same_size t ∙ ap length back, ap (drop 1) one_byte)

  twice : (activate_of config (activated_bytes config b) ≡ activate_of config b) × (activated_bytes config (activated_bytes config b) ≡ activated_bytes config b)
  twice =
      let (e, f) = good-active config (activated_table t) good refl in (
        ap (activate_of config) after ∙ e ∙ sym (activate-sound config b s d).0,
        ap (activated_bytes config) after ∙ f ∙ sym after,
      )

pub active-stays : ActivateActive
active-stays config b y s e =
    let d = ap (λ (n : ℕ). eqb n 4) e in
    answered config b b Active
    ((activate-sound config b s d).0, after config b y s d ∙ ap table_bytes (already (table_of b) e) ∙ back config b y s d)

pub makes-active : ActivateMakes
makes-active config b y s n =
    let d : is_dead (table_of b).head ≡ false = ne_eqb (table_of b).head.state 4 n in
    (answered config b (1 ∷ drop 1 b) Active ((activate-sound config b s d).0, one_byte config b y s d), same-but-active config b y s d)

-- on any memory: it is left, or it is that of a sound table that isn't dead
by-memory : {X : Type 0} (config : Config) (b : List ℕ) → (activated_bytes config b ≡ b → X) → (sound_by config b ≡ true → is_dead (table_of b).head ≡ false → X) → X
by-memory config b l m =
    cases (sound_by config b)
    (λ s. cases (is_dead (table_of b).head) (λ d. l (activate-dead config b s d).1) (λ d. m s d))
    (λ s. l (activate-damaged config b s).1)

pub activate-keeps : ActivateKeeps
activate-keeps config b y = by-memory config b (λ e. (ap length e, ap (drop 1) e)) (keeps config b y)

pub activate-twice : ActivateTwice
activate-twice config b y = by-memory config b (λ e. (ap (activate_of config) e, ap (activated_bytes config) e)) (twice config b y)
