-- Order 9: "Old traces hold such requests, so a trace replays under the new rule exactly if its first field is tag 5 with one byte of 2; a 1 there means the old, which differs for option 0x01 alone. Any other tag 5 stops it." Proved in proofs/Forcing.antt.
use Rattle.std.specs.Prelude.{ℕ, ◌+◌, ◌≡◌, Bool, true, false, List, ◌∷◌, ◌++◌, length, None}
use Rattle.engine.specs.declared.Config.{Config}
use Rattle.octets.specs.BigEndian.{num}
use Rattle.rows.specs.Table.{table_bytes, fresh}
use Rattle.trace.specs.Trace.{Placed, fields_in}
use Rattle.trace_writer.specs.Writing.{rule_field}
use Rattle.replay.specs.Replay.{Ending, Damaged, Differs, Stopped, Replayed, ruled_by, replayed}
use Rattle.promises.specs.Clock.{memory_after}
use Rattle.voyages.specs.Serving.{calls_of, AllLeadOn, ReplaysAs}
use Rattle.voyages.specs.Spelling.{WellOpened, WholeAt, RuleAt, OtherRuleAt}

-- "its first field is tag 5 with one byte of 2", and all there
abbrev pub SaysNew : List ℕ → Type 0
SaysNew trace = WholeAt trace 3 × RuleAt trace 3 false

-- the fresh table that a trace is replayed on
abbrev pub table_for : List ℕ → List ℕ
table_for trace = table_bytes (fresh 32 1 (num trace 0 1) (num trace 1 2))

-- the replay serves the trace's frames on an engine under a rule, by which force is taken or isn't, whatever the caller's rule is
abbrev pub ServesUnder : Bool → Config → List ℕ → List ℕ → Type 0
ServesUnder forcing config b trace = ReplaysAs (record { engine = config.engine; forcing = forcing }) (table_for trace) 0 None 0 (fields_in trace) (replayed config b trace)

-- "a trace replays under the new rule exactly if": if
abbrev pub NewRuleServes : Config → Type 0
NewRuleServes config = (b trace : List ℕ) → length b ≡ 42000 → WellOpened trace → SaysNew trace → ServesUnder false config b trace

-- and only if: with "a 1 there" and without tag 5 it replays under the old one
-- it rules out a replay that takes the caller's rule, that of a later field, or the new one for a trace that says none
abbrev pub OldRuleServes : Config → Type 0
OldRuleServes config = (b trace : List ℕ) → length b ≡ 42000 → WellOpened trace → (SaysNew trace → ⊥) → ServesUnder true config b trace

-- so the caller's rule doesn't matter
abbrev pub CallersRuleUnheard : Type 0
CallersRuleUnheard = (config other : Config) (b trace : List ℕ) → config.engine ≡ other.engine → replayed config b trace ≡ replayed other b trace

-- "Any other tag 5 stops it", at its place, once the fields before it have led on: one that isn't first, has another length, or another byte
-- it rules out a replay that skips such a field, or goes by the last of several
abbrev pub OtherRuleStops : Config → Type 0
OtherRuleStops config =
    (b trace : List ℕ) → length b ≡ 42000 → WellOpened trace → (before after : List Placed) (p : Placed) → fields_in trace ≡ before ++ (p ∷ after) → OtherRuleAt trace p.at
    → AllLeadOn (ruled_by config trace) (table_for trace) 0 None before
    → replayed config b trace ≡ record { answer = Stopped p.at; table = memory_after (ruled_by config trace) (table_for trace) (calls_of 0 before) }

-- "a 1 there means the old": such a field does nothing but put what follows 4 bytes later
abbrev pub four_later : Ending → Ending
four_later (Differs at) = Differs (at + 4)
four_later (Stopped at) = Stopped (at + 4)
four_later (Replayed n) = Replayed n
four_later Damaged = Damaged

-- a trace of three bytes of opening, and of fields that don't begin with tag 5, replays as it does with that field before them
abbrev pub OldRuleAsNone : Config → Type 0
OldRuleAsNone config =
    (b : List ℕ) (mode high low : ℕ) (fields : List ℕ) → WellOpened (mode ∷ (high ∷ (low ∷ (rule_field true ++ fields)))) → (num fields 0 1 ≡ 5 → ⊥)
    → replayed config b (mode ∷ (high ∷ (low ∷ (rule_field true ++ fields))))
    ≡ record { answer = four_later (replayed config b (mode ∷ (high ∷ (low ∷ fields)))).answer; table = (replayed config b (mode ∷ (high ∷ (low ∷ fields)))).table }
