-- What the view of a request shows: its extras, key and value as parts of the received bytes, or no bytes where reading refuses.
use Rattle.std.specs.Prelude.{ℕ, List, []}
use Rattle.std.specs.declared.option.Option.{Option}
use Rattle.std.specs.declared.option.Option.TheVariants.{Some, None}
use Rattle.request.specs.declared.Span.{Span}
use Rattle.request.specs.Reading.{Reading, Outcome, Status, Accepted, bytes_in}

-- the bytes of a span, no bytes where there is none
abbrev pub bytes_shown : List ℕ → Option Span → List ℕ
bytes_shown s None = []
bytes_shown s (Some span) = bytes_in s span

abbrev pub extras_shown : List ℕ → Reading → List ℕ
extras_shown s (Outcome n) = []
extras_shown s (Status n) = []
extras_shown s (Accepted g) = bytes_in s g.extras

abbrev pub key_shown : List ℕ → Reading → List ℕ
key_shown s (Outcome n) = []
key_shown s (Status n) = []
key_shown s (Accepted g) = bytes_in s g.key

abbrev pub value_shown : List ℕ → Reading → List ℕ
value_shown s (Outcome n) = []
value_shown s (Status n) = []
value_shown s (Accepted g) = bytes_in s g.value
