-- Serving a run: a call that is not refused takes a header at least, so the calls come to an end.
use native.Mathlib.Omega.{arith}
use Prim.Native.Nat.{ℕ, zero, suc, ◌+◌, ◌-◌, ◌≤◌}
use mathlib.Core.Path.{◌≡◌, refl, sym, ap, ◌∙◌}
use mathlib.Core.Bool.{false}
use mathlib.Core.List.{List}
use lib.ListN.{length, drop}
use Rattle.engine.specs.declared.Config.{Config}
use Rattle.engines.specs.Damage.{sound_by}
use Rattle.request.specs.Reading.{Gate, Stop, Whole}
use Rattle.tally.specs.declared.Tally.{Tally}
use Rattle.serving.specs.Serve.{Served, Refused, Done, gate_all, answer_by, served}
use Rattle.serving.proofs.Gated.{was-open}
use Rattle.serve.proofs.Gates.{gate-damaged}
use Rattle.run.specs.Run.{Ran, Stand, begun, called_on, further, on_done, stand_after, run_end, ran_of}

-- ---- what a call that was not refused did
pub record Consumed (s : List ℕ) (used : ℕ) : Type 0 where
  pub least : 24 ≤ used
  pub inside : used ≤ length s

done-by : (config : Config) (b s : List ℕ) (clock room st used len : ℕ) (g : Gate) → gate_all config b room s ≡ g → answer_by config b clock s g ≡ Done st used len → Consumed s used
done-by config b s clock room st used len (Stop k need) q e = absurd (let y : ◌≡◌ {A = ℕ} 0 1 = cc in omega arith)
done-by config b s clock room st used len (Whole h) q e =
    let u : 24 + h.body ≡ used = cc in
    record { least = omega arith; inside = omega (arith, (was-open config b s room h q).frame.inside) }

done-consumed : (config : Config) (b s : List ℕ) (clock room st used len : ℕ) → served config b clock s room ≡ Done st used len → Consumed s used
unfolding served
done-consumed config b s clock room st used len e = done-by config b s clock room st used len (gate_all config b room s) refl e

-- ---- the calls of a run
pub by-served {ℓ} : {X : Type ℓ} (r : Served) → ((n need : ℕ) → r ≡ Refused n need → X) → ((st used len : ℕ) → r ≡ Done st used len → X) → X
by-served (Refused n need) f g = f n need refl
by-served (Done st used len) f g = g st used len refl

module _ (config : Config) (clock : ℕ) (run : List ℕ) where
  abbrev on : ℕ → Stand → Served → Stand
  on n x r = on_done r x (λ st used len. stand_after config n clock run (further config clock run x st used len))

  pub stops : (n k need : ℕ) (x : Stand) → called_on config clock run x ≡ Refused k need → stand_after config n clock run x ≡ x
  unfolding stand_after
  stops zero k need x e = refl
  stops (suc n) k need x e = ap (on n x) e

  pub goes : (n st used len : ℕ) (x : Stand) → called_on config clock run x ≡ Done st used len
      → stand_after config (suc n) clock run x ≡ stand_after config n clock run (further config clock run x st used len)
  unfolding stand_after
  goes n st used len x e = ap (on n x) e

  pub consumed : (x : Stand) (st used len : ℕ) → called_on config clock run x ≡ Done st used len → Consumed (drop x.at run) used
  consumed x st used len e = done-consumed config x.table (drop x.at run) clock (length x.reply - x.filled) st used len e

  run_ends : (x : Stand) (k need : ℕ) → called_on config clock run x ≡ Refused k need → run_end config clock run x ≡ x
  unfolding run_end
  run_ends x k need e = stops (length run) k need x e

-- a run on a damaged table ends before its first frame
damaged : (config : Config) (b : List ℕ) (clock : ℕ) (s : List ℕ) (room : ℕ) → sound_by config b ≡ false → served config b clock s room ≡ Refused 5 0
unfolding served
damaged config b clock s room d = ap (answer_by config b clock s) (gate-damaged config b s room d)

pub run-damaged : (config : Config) (clock : ℕ) (run b out : List ℕ) (t : Tally) → sound_by config b ≡ false
    → (◌≡◌ {A = Ran} (record { cursor = record { at = 0 }; filled = 0; tally = t; stop = Refused 5 0 }) (ran_of config clock run (run_end config clock run (begun b out t))))
    × ((b ≡ (run_end config clock run (begun b out t)).table) × (out ≡ (run_end config clock run (begun b out t)).reply))
unfolding ran_of
run-damaged config clock run b out t d =
    let e = damaged config b clock (drop 0 run) (length out - 0) d in
    let x = sym (run_ends config clock run (begun b out t) 5 0 e) in
    let a : ◌≡◌ {A = Ran} (record { cursor = record { at = 0 }; filled = 0; tally = t; stop = Refused 5 0 }) (ran_of config clock run (begun b out t)) =
    λ i. record { cursor = record { at = 0 }; filled = 0; tally = t; stop = sym e i } in
    (a ∙ ap (ran_of config clock run) x, (ap (λ (z : Stand). z.table) x, ap (λ (z : Stand). z.reply) x))
