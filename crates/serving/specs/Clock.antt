-- Order 2 of one frame: "serving a frame with any status" leaves the later of the two as the kept clock. Proved in proofs/Clock.antt.
use Rattle.std.specs.Prelude.{ℕ, ◌+◌, ◌^◌, ◌≤◌, ◌<◌, ◌≡◌, true, List, length}
use Rattle.octets.specs.Parts.{Bytes}
use Rattle.header.specs.declared.Header.{Header}
use Rattle.rows.specs.Table.{table_of, clock_at}
use Rattle.engine.specs.declared.Config.{Config}
use Rattle.engines.specs.Damage.{sound_by}
use Rattle.serving.specs.Serve.{frame_table}

abbrev pub FrameRaises : Type 0
FrameRaises =
    (config : Config) (b : List ℕ) (clock : ℕ) (s : List ℕ) (h : Header) → Bytes b → Bytes s → clock < 2 ^ 32 → sound_by config b ≡ true → 24 + h.body ≤ length s
    → (table_of (frame_table config b clock s h)).head.clock ≡ clock_at (table_of b) clock
