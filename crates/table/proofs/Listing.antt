-- A listing's keys, against the documents of a table that is not damaged.
use Prim.Native.Nat.{ℕ, ◌≤◌}
use native.Mathlib.Omega.{arith}
use mathlib.Core.Path.{◌≡◌}
use mathlib.Core.List.{List}
use borrow.Author.Tests.{le-ltb}
use Rattle.document.specs.Documents.{Key}
use Rattle.engine.specs.declared.EngineKind.{EngineKind}
use Rattle.engine.specs.declared.EngineKind.TheVariants.{Plain, Ordered}
use Rattle.listing.specs.Listing.{listing}
use Rattle.rows.specs.Table.{row_count, table_of}
use Rattle.plain.specs.Plain.{used_rows}
use Rattle.plain.proofs.TableLaws.{count-rows}
use Rattle.plain_listing.specs.Places.{fitting_keys}
use Rattle.ordered_listing.proofs.Listed.{walks-listing}
use Rattle.engines.specs.Engines.{rows_kept}
use Rattle.engines.proofs.Tables.{sound-good-by}
use Rattle.table.specs.Calls.{keys_with, keys_for}
use Rattle.table.specs.Claims.{ListsKeys}

lists-in : (k : EngineKind) (b : List ℕ) (clock : ℕ) (start : Key) (count room : ℕ) → rows_kept k (table_of b).rows → row_count b ≤ 256 → 1302 ≤ room
    → keys_with k room b clock start count ≡ listing (used_rows (table_of b).rows) clock start count
unfolding fitting_keys
lists-in Plain b clock start count room o n h = rw (le-ltb room 1302 h, le-ltb 256 (row_count b) n)
lists-in Ordered b clock start count room o n h = walks-listing b clock start count room o h

pub lists-keys : ListsKeys
unfolding keys_for
lists-keys config b clock start count room y s h =
    let g = (sound-good-by config b y s).1 in
    lists-in config.engine b clock start count room g.kept (omega (arith, g.good.most, count-rows b)) h
