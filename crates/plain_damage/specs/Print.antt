-- For the code alone: the fingerprint of a row, its key's, 0 where it is free. Only speed hangs on it.
use Rattle.std.specs.Prelude.{ℕ, Some, None}
use Rattle.fingerprint.specs.Fingerprint.{fingerprint}
use Rattle.rows.specs.Row.{Row}

abbrev pub row_print : Row → ℕ
row_print None = 0
row_print (Some e) = fingerprint e.key
