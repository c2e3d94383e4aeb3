-- Document 01's numbers: of each status, and of each outcome, with the bytes that outcome 1 says are needed.
use Rattle.std.specs.Prelude.{ℕ}
use Rattle.std.specs.declared.result.Result.{Result}
use Rattle.std.specs.declared.result.Result.TheVariants.{Ok, Err}
use Rattle.outcome.specs.declared.Status.{Status}
use Rattle.outcome.specs.declared.Status.TheVariants.{NotFound, Exists, TooLarge, Invalid, NotStored, NotNumeric, NotMyVbucket, UnknownCommand, OutOfMemory, NotSupported, Internal}
use Rattle.outcome.specs.declared.Refusal.{Refusal}
use Rattle.outcome.specs.declared.Refusal.TheVariants.{Incomplete, BadMagic, TooLong, NoRoom, Damaged}

abbrev pub status_number : Status → ℕ
status_number NotFound = 0x01
status_number Exists = 0x02
status_number TooLarge = 0x03
status_number Invalid = 0x04
status_number NotStored = 0x05
status_number NotNumeric = 0x06
status_number NotMyVbucket = 0x07
status_number UnknownCommand = 0x81
status_number OutOfMemory = 0x82
status_number NotSupported = 0x83
status_number Internal = 0x84

-- the status of an answer, "0x00 success" where nothing went wrong
abbrev pub status_of : Result (Unit {0}) Status → ℕ
status_of (Ok done) = 0
status_of (Err status) = status_number status

abbrev pub refusal_number : Refusal → ℕ
refusal_number (Incomplete needed) = 1
refusal_number BadMagic = 2
refusal_number TooLong = 3
refusal_number NoRoom = 4
refusal_number Damaged = 5

-- the bytes needed from the frame's start, 0 where 01 has an outcome say none
abbrev pub refusal_needed : Refusal → ℕ
refusal_needed (Incomplete needed) = needed
refusal_needed BadMagic = 0
refusal_needed TooLong = 0
refusal_needed NoRoom = 0
refusal_needed Damaged = 0
