-- Order 2 on bytes: the clock that a table keeps, in the four bytes from offset 4 on, and what a call that stores nothing leaves.
use Rattle.std.specs.Prelude.{ℕ, max, List, ◌++◌, take, drop}
use Rattle.octets.specs.BigEndian.{num, bytes_of}
use Rattle.serving.specs.Serve.{Served, Refused, Done}

abbrev pub kept_at : List ℕ → ℕ
kept_at b = num b 4 4

-- "the later of the two", the kept clock and a call's
abbrev pub later_at : List ℕ → ℕ → ℕ
later_at b clock = max (kept_at b) clock

-- "now excepts this one number": all bytes but those four, and those four are the later clock
abbrev pub clock_raised : List ℕ → ℕ → List ℕ
clock_raised b clock = take 4 b ++ (bytes_of 4 (later_at b clock) ++ drop 8 b)

-- what an answer leaves of a table's memory where nothing is stored: "serving a frame with any status" raises the kept clock; "outcomes 1 to 5 [..] don't"
abbrev pub kept_by : Served → List ℕ → ℕ → List ℕ
kept_by (Refused n need) b clock = b
kept_by (Done status used len) b clock = clock_raised b clock
