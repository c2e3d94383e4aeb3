-- A call that is refused changes no byte of the table, and one that answers with another status than 0 none but the kept clock's.
use Prim.Native.Nat.{ℕ}
use native.Mathlib.Omega.{arith}
use mathlib.Core.Path.{◌≡◌, refl, sym, ap, ◌∙◌}
use mathlib.Core.List.{List}
use Rattle.std.specs.Prelude.{None}
use lib.Dec.{ltb}
use Rattle.engine.specs.declared.Config.{Config}
use Rattle.octets.specs.Parts.{Bytes}
use Rattle.octets.proofs.Choices.{cases}
use Rattle.header.specs.declared.Header.{Header}
use Rattle.request.specs.Reading.{Gate, Stop, Whole, bytes_in, key_span}
use Rattle.decision.specs.Decide.{decide}
use Rattle.decision.proofs.Stores.{refused-keeps as decided-keeps}
use Rattle.decode.specs.Decode.{request_of}
use Rattle.rows.specs.Table.{Table, table_of, table_at, clock_at, table_bytes}
use Rattle.rows.specs.Find.{find_row, free_rows}
use Rattle.serving.proofs.Gated.{was-open, refused-keeps as call-keeps}
use Rattle.serving.proofs.Change.{unchanged}
use Rattle.serving.specs.Serve.{Done, reaches_decision, decision_on, frame_effect, frame_table, answer_by, table_by, served, served_table, gate_all}
use Rattle.promises.specs.Kept.{clock_raised}
use Rattle.promises.specs.Table.{RefusedKeeps, StatusKeeps}
use Rattle.promises.proofs.Kept.{raised-bytes}

pub refused-keeps : (config : Config) → RefusedKeeps config
refused-keeps config = call-keeps config

-- ---- another status than 0: nothing is stored, and the head stays
pub nothing_stored : (config : Config) (t : Table) (clock : ℕ) (s : List ℕ) (h : Header) → ((frame_effect config t clock s h).status ≡ 0 → ⊥)
    → ((frame_effect config t clock s h).store ≡ None) × ((frame_effect config t clock s h).head ≡ t.head)
unfolding frame_effect decision_on decide
nothing_stored config t clock s h n =
    cases (reaches_decision s h)
    (λ y. rw y (decided-keeps t.head (find_row t.rows (bytes_in s (key_span h))) (ltb 0 (free_rows t.rows)) clock (request_of config.forcing s h) (rw y at n)))
    (λ y. rw y (refl, refl))

kept : (config : Config) (b : List ℕ) (clock : ℕ) (s : List ℕ) (room status used len : ℕ) (g : Gate) → Bytes b → gate_all config b room s ≡ g → answer_by config b clock s g ≡ Done status used len
    → (status ≡ 0 → ⊥) → table_by config b clock s g ≡ clock_raised b clock
unfolding frame_table
kept config b clock s room status used len (Stop m more) y o e n = absurd (let z : ◌≡◌ {A = ℕ} 0 1 = cc in omega arith)
kept config b clock s room status used len (Whole h) y o e n =
    let t = table_at (table_of b) clock in
    let now = clock_at (table_of b) clock in
    let z : (frame_effect config t now s h).status ≡ status = cc in
    let p = nothing_stored config t now s h (λ y. n (sym z ∙ y)) in
    ap table_bytes (unchanged config t now s h p.0 p.1) ∙ raised-bytes config b clock y (was-open config b s room h o).undamaged

pub status-keeps : (config : Config) → StatusKeeps config
unfolding served served_table
status-keeps config b clock s room status used len y e n = kept config b clock s room status used len (gate_all config b room s) y refl e n
