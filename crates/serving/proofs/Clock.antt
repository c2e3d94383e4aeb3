-- Every whole frame leaves the later of the two clocks as the kept one.
use Prim.Native.Nat.{ℕ, ◌+◌, ◌≤◌}
use mathlib.Core.Path.{◌≡◌, ap, ◌∙◌}
use mathlib.Core.List.{List}
use lib.ListN.{length}
use Rattle.octets.specs.Parts.{Bytes}
use Rattle.octets.proofs.Options.{options}
use Rattle.header.specs.declared.Header.{Header}
use Rattle.document.specs.declared.Head.{Head}
use Rattle.rows.specs.Table.{Table, table_of, table_at, clock_at}
use Rattle.plain.specs.Claims.{Good}
use Rattle.engine.specs.declared.Config.{Config}
use Rattle.engines.proofs.Tables.{sound-good-by, good-sound-by, clock-good-by}
use Rattle.serving.specs.Serve.{frame_effect, frame_change, frame_table}
use Rattle.serving.specs.Clock.{FrameRaises}
use Rattle.serving.proofs.Change.{changing, change-good}

-- a frame leaves the clock of the table that it is served on
pub clock-stays : (config : Config) (t : Table) (clock : ℕ) (s : List ℕ) (h : Header) → Good t → Bytes s → 24 + h.body ≤ length s → (frame_effect config t clock s h).head.clock ≡ t.head.clock
clock-stays config t clock s h g z w =
    let c = changing config t clock s h g z w in
    options (frame_effect config t clock s h).store (λ e. ap (λ (x : Head). x.clock) (c.keeps e)) (λ d e. ap (λ (x : Head). x.clock) (c.stores d e).head)

pub frame-raises : FrameRaises
unfolding frame_table
frame-raises config b clock s h y z small sb w =
    let u = table_at (table_of b) clock in
    let now = clock_at (table_of b) clock in
    let g = clock-good-by config (table_of b) clock (sound-good-by config b y sb).1 small in
    ap (λ (t : Table). t.head.clock) (good-sound-by config (frame_change config u now s h) (change-good config u now s h g z w)).1 ∙ clock-stays config u now s h g.good z w
