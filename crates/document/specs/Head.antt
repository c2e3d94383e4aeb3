-- A table's head with another state, mark or clock.
use Rattle.std.specs.Prelude.{ℕ, max}
use Rattle.numbers.specs.Expiry.{later}
use Rattle.document.specs.declared.Head.{Head}

abbrev pub stated : Head → ℕ → Head
stated h s = record { state = s; mode = h.mode; vbucket = h.vbucket; clock = h.clock; mark = h.mark }

abbrev pub marked : Head → ℕ → Head
marked h m = record { state = h.state; mode = h.mode; vbucket = h.vbucket; clock = h.clock; mark = record { 0 = m } }

-- "the mark is raised to it where lower"
abbrev pub raised : Head → ℕ → Head
raised h cas = marked h (max h.mark.0 cas)

abbrev pub clocked : Head → ℕ → Head
clocked h c = record { state = h.state; mode = h.mode; vbucket = h.vbucket; clock = c; mark = h.mark }

-- order 2, a head at a call's clock: "The table shall keep the latest clock it has been given"
abbrev pub at_clock : Head → ℕ → Head
at_clock h clock = clocked h (later h.clock clock)
