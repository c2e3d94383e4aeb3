-- What the walk writes where the rows are in key order. Proved in proofs/.
use Rattle.std.specs.Prelude.{ℕ, ◌≤◌, ◌≡◌, true, List}
use Rattle.document.specs.Documents.{Key}
use Rattle.listing.specs.Listing.{listing}
use Rattle.rows.specs.Table.{table_of}
use Rattle.plain.specs.Plain.{used_rows}
use Rattle.ordered.specs.Order.{ordered}
use Rattle.ordered_listing.specs.Walk.{keys_walked}

-- the listing of the rows' documents: keys in order need no sorting, and the rows that are passed over are those below the start key
abbrev pub WalksListing : Type 0
WalksListing =
    (b : List ℕ) (clock : ℕ) (start : Key) (count room : ℕ) → ordered (table_of b).rows ≡ true → 1302 ≤ room
    → keys_walked room b clock start count ≡ listing (used_rows (table_of b).rows) clock start count
