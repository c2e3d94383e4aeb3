-- A frame that was served stands in the bytes that it was read from.
use native.Mathlib.Omega.{arith}
use Prim.Native.Nat.{ℕ, ◌+◌, ◌≤◌}
use mathlib.Core.Path.{◌≡◌, refl, subst}
use mathlib.Core.List.{List}
use mathlib.Core.Bool.{false}
use lib.ListN.{length, drop}
use Rattle.engine.specs.declared.Config.{Config}
use Rattle.request.specs.Reading.{Gate, Stop, Whole}
use Rattle.engines.specs.Damage.{sound_by}
use Rattle.serving.proofs.Gated.{was-open}
use Rattle.serving.specs.Serve.{Served, Refused, served_used, gate_all, served}
use Rattle.serving.specs.Serves.{Serves}
use Rattle.serve.proofs.Gates.{gate-damaged, gated}
use Rattle.run.specs.declared.Cursor.{Cursor}
use Rattle.run.specs.Run.{Moved, moved_by}

used-by : (config : Config) (b : List ℕ) (clock : ℕ) (s : List ℕ) (room : ℕ) (g : Gate) → gate_all config b room s ≡ g → served_used (served config b clock s room) ≤ length s
unfolding served
used-by config b clock s room (Stop k need) q = rw q (omega arith)
used-by config b clock s room (Whole h) q = rw q (was-open config b s room h q).frame.inside

pub used-fits : (config : Config) (b : List ℕ) (clock : ℕ) (s : List ℕ) (room : ℕ) → served_used (served config b clock s room) ≤ length s
used-fits config b clock s room = used-by config b clock s room (gate_all config b room s) refl

pub moved-eq : (config : Config) (at : ℕ) (b : List ℕ) (clock : ℕ) (s s' r : List ℕ) (x : Served) (used : ℕ) (b' r' : List ℕ) → s ≡ s' → used ≡ served_used x
    → Serves config b clock s r x b' r'
    → (◌≡◌ {A = Moved} (record { cursor = record { at = at + used }; served = x }) (moved_by at x)) × Serves config b clock s' r x b' r'
unfolding moved_by
moved-eq config at b clock s s' r x used b' r' e u q = (rw u, subst (λ (z : List ℕ). Serves config b clock z r x b' r') e q)

-- on a damaged table nothing is served
pub moved-damaged : (config : Config) (c : Cursor) (b : List ℕ) (clock : ℕ) (run out : List ℕ) → sound_by config b ≡ false
    → (◌≡◌ {A = Moved} (record { cursor = c; served = Refused 5 0 }) (moved_by c.at (Refused 5 0))) × Serves config b clock (drop c.at run) out (Refused 5 0) b out
unfolding moved_by
moved-damaged config c b clock run out d =
    let stays : c.at ≡ c.at + 0 = omega arith in (
      λ i. record { cursor = record { at = stays i }; served = Refused 5 0 },
      gated config b (drop c.at run) out clock _ (gate-damaged config b (drop c.at run) (length out) d) _ _ _ refl refl refl,
    )
