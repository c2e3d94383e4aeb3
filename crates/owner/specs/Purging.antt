-- For the code alone: what a purge leaves of any memory taken for a table that is not damaged. Where it is one, this is purging itself
-- (proofs/Reading.antt `purge-stepped`).
use Rattle.std.specs.Prelude.{ℕ, List}
use Rattle.octets.specs.Parts.{written}
use Rattle.octets.specs.BigEndian.{num, bytes_of}
use Rattle.numbers.specs.Expiry.{later}
use Rattle.document.specs.Stored.{gone_doc}
use Rattle.engine.specs.declared.Config.{Config}
use Rattle.plain_writer.specs.Change.{freed_rows}
use Rattle.table.specs.Calls.{purged_by}

-- how many rows were freed, and the memory after it
pub record PurgeStepped : Type 0 where
  pub freed : ℕ
  pub table : List ℕ

-- the later of the kept clock and the call's is written first, and the rows are freed by it
unfoldable pub purge_step : Config → List ℕ → ℕ → ℕ → PurgeStepped
purge_step config b clock bound =
    let now = later (num b 4 4) clock in
    let kept = written b 4 (bytes_of 4 now) in
    record { freed = freed_rows (gone_doc now bound) kept; table = purged_by config (gone_doc now bound) kept }
