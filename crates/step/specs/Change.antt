-- For the code alone: what a decision leaves of a table's memory, by the lookup of its key. On a table that is not damaged it is serving's frame_table (serve/proofs/Joint.antt).
use Rattle.std.specs.Prelude.{ℕ, List, [], Option, Some, None}
use Rattle.engine.specs.declared.Config.{Config}
use Rattle.octets.specs.Parts.{written}
use Rattle.octets.specs.BigEndian.{bytes_of}
use Rattle.digits.specs.Decimal.{digits}
use Rattle.document.specs.Documents.{Key}
use Rattle.document.specs.Stored.{entry_of}
use Rattle.document.specs.declared.Head.{Head}
use Rattle.document.specs.declared.Metadata.{Metadata}
use Rattle.document.specs.declared.Side.TheVariants.{Back}
use Rattle.effects.specs.declared.Source.{Source}
use Rattle.effects.specs.declared.Source.TheVariants.{Empty, Frame, Digits, Kept, Joined}
use Rattle.effects.specs.declared.Done.{Done}
use Rattle.rows.specs.Table.{head_bytes}
use Rattle.table.specs.declared.Lookup.{Lookup}
use Rattle.table.specs.Calls.{stored_by, joined_by}

-- a key's row stored where a lookup said, its value by its source: a value that is kept has nothing joined to it
abbrev pub stored_from : Config → List ℕ → Lookup → Key → Metadata → Source → List ℕ → List ℕ
stored_from config b l key m Empty value = stored_by config b l (entry_of key m [])
stored_from config b l key m Frame value = stored_by config b l (entry_of key m value)
stored_from config b l key m (Digits n) value = stored_by config b l (entry_of key m (digits n))
stored_from config b l key m Kept value = joined_by config b l key m Back []
stored_from config b l key m (Joined side) value = joined_by config b l key m side value

-- a row for a key after a new head; where nothing is stored, the head's clock alone
abbrev pub changed_with : Config → List ℕ → Lookup → Key → Option Metadata → Source → Head → List ℕ → List ℕ
changed_with config b l key None source head value = written b 4 (bytes_of 4 head.clock)
changed_with config b l key (Some m) source head value = stored_from config (written b 0 (head_bytes head)) l key m source value

abbrev pub changed_by : Config → List ℕ → Lookup → Key → Done → List ℕ → List ℕ
changed_by config b l key d value = changed_with config b l key d.store d.source d.head value
