-- A trace that has opened, on memory for 32 rows: the table that is made there is a fresh one in the trace's mode.
use Rattle.std.specs.Prelude.{Option, Some, None}
use native.Mathlib.Omega.{arith}
use Prim.Native.Nat.{ℕ, ◌≤◌, ◌<◌}
use mathlib.Core.Path.{◌≡◌, refl, sym, ap, subst, ◌∙◌}
use mathlib.Core.Bool.{true, false, ◌||◌}
use mathlib.Core.Logic.{◌⊎◌, inl, inr}
use mathlib.Core.List.{List, []}
use lib.ListN.{length}
use lib.Dec.{ltb, eqb}
use borrow.Author.Tests.{eq-eqb, ltb-false}
use Rattle.engine.specs.declared.Config.{Config}
use Rattle.octets.specs.BigEndian.{num}
use Rattle.octets.proofs.Choices.{cond-elim}
use Rattle.rows.specs.RowRules.{size_ok}
use Rattle.rows.specs.Table.{table_bytes, fresh}
use Rattle.engines.specs.Damage.{sound_by}
use Rattle.owning.specs.Owner.{make_ok, made}
use Rattle.owner.proofs.Making.{accepted}
use Rattle.owner.proofs.Tells.{make-sound}
use Rattle.trace.specs.declared.Opening.{Opening}
use Rattle.trace.specs.Trace.{opening_of, fields_in}
use Rattle.trace.proofs.Modes.{mode-known}
use Rattle.replay.specs.Replay.{Ending, Damaged, Stopped, After, ruled_by, on_opening, replayed, walked}
use Rattle.replay.specs.Turns.{Walks}

pub record Opens (trace : List ℕ) (mode : ℕ) : Type 0 where
  pub least : 3 ≤ length trace
  pub most : length trace ≤ 65536
  pub known : (mode ≡ 1) ⊎ (mode ≡ 2)

no-opening {ℓ} : {X : Type ℓ} (o : Opening) → None ≡ Some o → X
no-opening o e = absurd (let y : ◌≡◌ {A = ℕ} 0 1 = cc in omega arith)

abbrev mode_in : Option Opening → ℕ
mode_in None = 0
mode_in (Some o) = o.mode

pub opens : (trace : List ℕ) (mode vbucket : ℕ) → opening_of trace ≡ Some (record { mode = mode; vbucket = vbucket }) → Opens trace mode
unfolding opening_of
opens trace mode vbucket e =
    cond-elim (ltb 65536 (length trace)) _ _ _ e (λ t z. no-opening _ z)
    (λ t e. cond-elim (ltb (length trace) 3) _ _ _ e (λ u z. no-opening _ z)
    (λ u e. cond-elim (eqb (num trace 0 1) 1 || eqb (num trace 0 1) 2) _ _ _ e
    (λ v z.
    let m : num trace 0 1 ≡ mode = ap mode_in z in
    record {
      least = ltb-false _ _ u;
      most = ltb-false _ _ t;
      known = subst (λ (n : ℕ). (n ≡ 1) ⊎ (n ≡ 2)) m (mode-known (num trace 0 1) v);
    })
    (λ v z. no-opening _ z)))

-- a table is made in either mode, and is sound in both engines
module _ (b : List ℕ) (mode vbucket : ℕ) (n : length b ≡ 42000) where
  can-make : (mode ≡ 1) ⊎ (mode ≡ 2) → make_ok (length b) 32 1 mode ≡ true
  unfolding make_ok size_ok
  can-make (inl e) = rw (n, e) refl
  can-make (inr e) = rw (n, e) refl

  pub made-fresh : (mode ≡ 1) ⊎ (mode ≡ 2) → made b 32 1 mode vbucket ≡ table_bytes (fresh 32 1 mode vbucket)
  made-fresh k = sym (accepted b 32 1 mode vbucket (can-make k)).1

  pub made-sound : (config : Config) (b' : List ℕ) → (mode ≡ 1) ⊎ (mode ≡ 2) → vbucket < 65536 → b' ≡ made b 32 1 mode vbucket → sound_by config b' ≡ true
  made-sound config b' k v e = ap (sound_by config) e ∙ make-sound config b 32 1 mode vbucket v (sym (accepted b 32 1 mode vbucket (can-make k)).0)

-- ---- what a call leaves
module _ (config : Config) (b trace : List ℕ) where
  abbrev Left : Ending → List ℕ → Type 0
  Left r b' = (r ≡ (replayed config b trace).answer) × (b' ≡ (replayed config b trace).table)

  pub other-size : eqb (length b) 42000 ≡ false → Left Damaged b
  unfolding replayed
  other-size e = rw e (refl, refl)

  module _ (n : length b ≡ 42000) where
    by-opening : (o : Option Opening) → opening_of trace ≡ o → replayed config b trace ≡ on_opening config b trace o
    unfolding replayed
    by-opening o e = rw (eq-eqb (length b) 42000 n, e) refl

    pub unopened : opening_of trace ≡ None → Left (Stopped 0) b
    unopened e = let w = by-opening None e in (sym (ap (λ (x : After). x.answer) w), sym (ap (λ (x : After). x.table) w))

    pub opened : (mode vbucket : ℕ) (fresh' : List ℕ) (r : Ending) (b' : List ℕ) → opening_of trace ≡ Some (record { mode = mode; vbucket = vbucket }) → fresh' ≡ made b 32 1 mode vbucket
        → (ruled : Config) → ruled ≡ ruled_by config trace → Walks ruled fresh' trace r b' → Left r b'
    opened mode vbucket fresh' r b' e f ruled k w =
        let t : fresh' ≡ table_bytes (fresh 32 1 mode vbucket) = f ∙ made-fresh b mode vbucket n (opens trace mode vbucket e).known in
        let x : ◌≡◌ {A = After} (record { answer = r; table = b' }) (replayed config b trace) =
        w.end ∙ ((λ i. walked (k i) (record { table = t i; clock = 0; frames = 0; reply = [] }) (fields_in trace)) ∙ sym (by-opening (Some (record { mode = mode; vbucket = vbucket })) e)) in
        (ap (λ (z : After). z.answer) x, ap (λ (z : After). z.table) x)
