-- The table stays sound under serving, whatever the bytes, the clock of 32 bits and the room.
use Prim.Native.Nat.{ℕ, ◌^◌, ◌<◌}
use mathlib.Core.Path.{◌≡◌, refl}
use mathlib.Core.Bool.{true, cond, not}
use mathlib.Core.List.{List}
use lib.Dec.{ltb}
use Rattle.engine.specs.declared.Config.{Config}
use Rattle.octets.specs.Parts.{Bytes}
use Rattle.header.specs.declared.Header.{Header}
use Rattle.request.specs.Reading.{Gate, Stop, Whole, gate_of}
use Rattle.request.proofs.Gated.{whole-frame}
use Rattle.rows.specs.Table.{table_of, table_at, clock_at}
use Rattle.engines.specs.Damage.{sound_by}
use Rattle.engines.proofs.Tables.{sound-good-by, good-sound-by, clock-good-by}
use Rattle.serving.specs.Serve.{gate_all, frame_change, frame_table, table_by, served_table}
use Rattle.serving.proofs.Formed.{by_cond}
use Rattle.serving.proofs.Change.{change-good}

module _ (config : Config) (b : List ℕ) (clock : ℕ) (s : List ℕ) (y : Bytes b) (z : Bytes s) (c : clock < 2 ^ 32) (e : sound_by config b ≡ true) where
  abbrev Stays : Gate → Type 0
  Stays g = sound_by config (table_by config b clock s g) ≡ true

  whole : (h : Header) → gate_of s ≡ Whole h → sound_by config (frame_table config b clock s h) ≡ true
  unfolding frame_table
  whole h w =
      let t = table_at (table_of b) clock in
      let now = clock_at (table_of b) clock in
      let good = clock-good-by config (table_of b) clock (sound-good-by config b y e).1 c in
      (good-sound-by config (frame_change config t now s h) (change-good config t now s h good z (whole-frame s h w).inside)).0

  gated : (g : Gate) → gate_of s ≡ g → Stays g
  gated (Stop n need) w = e
  gated (Whole h) w = whole h w

  pub stays-sound : (room : ℕ) → sound_by config (served_table config b clock s room) ≡ true
  unfolding served_table gate_all
  stays-sound room =
      by_cond Stays (not (sound_by config b)) (Stop 5 0) (cond (ltb room 1302) (Stop 4 0) (gate_of s)) (λ t. e)
      (λ t. by_cond Stays (ltb room 1302) (Stop 4 0) (gate_of s) (λ u. e) (λ u. gated (gate_of s) refl))
