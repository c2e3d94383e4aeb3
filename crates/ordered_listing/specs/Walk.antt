-- For the code alone: the keys of the live rows of any memory, as the rows stand. What that is where they are in key order is in Claims.antt.
use Rattle.std.specs.Prelude.{ℕ, Bool, false, cond, List, [], ltb, drop, Some, None}
use Rattle.document.specs.Documents.{Key}
use Rattle.document.specs.Stored.{stored_of, live}
use Rattle.listing.specs.Listing.{live_keys, taken, keys_bytes}
use Rattle.rows.specs.Row.{Row}
use Rattle.rows.specs.Table.{table_of}
use Rattle.plain.specs.Plain.{used_rows}
use Rattle.ordered_lookup.specs.Halving.{first_from}

-- a row with a live document
abbrev pub is_live : ℕ → Row → Bool
is_live clock None = false
is_live clock (Some e) = live (stored_of (Some e.doc)) clock

-- the keys of such rows, in the order of rows
abbrev pub keys_live : ℕ → List Row → List Key
keys_live clock ws = live_keys clock (used_rows ws)

-- those from the first row that is not below the start key, as far as they fit, where the room is 1,302 bytes
unfoldable pub keys_walked : ℕ → List ℕ → ℕ → Key → ℕ → List ℕ
keys_walked room b clock start count =
    let ws = (table_of b).rows in
    cond (ltb room 1302) [] (keys_bytes (taken count 1278 (keys_live clock (drop (first_from start ws) ws))))
