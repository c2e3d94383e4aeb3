-- For the code alone: the voyage that table memory, reply area and progress stand for, and what its functions leave of them.
use Rattle.std.specs.Prelude.{ℕ, ◌+◌, ◌≤◌, ◌≡◌, List, [], Bool, true, cond, length, eqb, Option, Some}
use Rattle.engine.specs.declared.Config.{Config}
use Rattle.octets.specs.Parts.{part}
use Rattle.engines.specs.Damage.{sound_by}
use Rattle.trace.specs.declared.Field.{Field}
use Rattle.trace.specs.declared.Field.TheVariants.{Frame}
use Rattle.trace.specs.Trace.{length_in, bytes_held, field_at, fields_in}
use Rattle.replay.specs.declared.Progress.{Progress}
use Rattle.std.specs.declared.result.Result.{Result}
use Rattle.std.specs.declared.result.Result.TheVariants.{Ok, Err}
use Rattle.replay.specs.declared.ReplayError.{ReplayError}
use Rattle.replay.specs.declared.ReplayError.TheVariants.{Differs as DiffersAt, Stopped as StoppedAt}
use Rattle.replay.specs.Replay.{error_told, Ending, Differs, Stopped, Voyage, Turn, On, End, on_field, After, walked}

-- the last reply stands at the start of the reply area
abbrev pub voyage_of : List ℕ → List ℕ → Progress → Voyage
voyage_of b out p = record { table = b; clock = p.clock; frames = p.frames; reply = part out 0 p.filled }

abbrev pub turn_of : List ℕ → List ℕ → Result Progress ReplayError → Turn
turn_of b out (Ok p) = On (voyage_of b out p)
turn_of b out (Err r) = End (error_told r)

-- past a field that holds n bytes
abbrev pub passed : Progress → ℕ → Progress
passed p n = record { at = p.at + 3 + n; clock = p.clock; frames = p.frames; filled = p.filled }

-- where a step leads to: past the field, with at most one frame more; or to the end, with the table as it was
abbrev pub Leads : List ℕ → Progress → ℕ → List ℕ → Result Progress ReplayError → Type 0
Leads b p n b' (Ok q) = (q.at ≡ p.at + (3 + n)) × (q.frames ≤ p.frames + 1)
Leads b p n b' (Err r) = b' ≡ b

-- after a field that holds these bytes; the table stays sound, so that no field after it tests it
pub record TurnsBy (config : Config) (b out : List ℕ) (p : Progress) (f : Option Field) (bytes : List ℕ) (n : ℕ) (r : Result Progress ReplayError) (b' out' : List ℕ) : Type 0 where
  pub turn : turn_of b' out' r ≡ on_field config p.at (voyage_of b out p) f bytes
  pub leads : Leads b p n b' r
  pub sound : sound_by config b' ≡ true

abbrev pub FrameTurns : Config → List ℕ → List ℕ → List ℕ → Progress → Result Progress ReplayError → List ℕ → List ℕ → Type 0
FrameTurns config b frame out p r b' out' = TurnsBy config b out p (Some (Frame (length frame))) frame (length frame) r b' out'

abbrev pub Turns : Config → List ℕ → List ℕ → List ℕ → Progress → Result Progress ReplayError → List ℕ → List ℕ → Type 0
Turns config b s out p r b' out' = TurnsBy config b out p (field_at p.at s) (bytes_held s) (length_in s) r b' out'

-- an expected reply of n bytes, the last frame's or not
abbrev pub reply_step : Bool → ℕ → Progress → Result Progress ReplayError
reply_step sent n p = cond (eqb p.frames 0) (Err (StoppedAt p.at)) (cond sent (Ok (passed p n)) (Err (DiffersAt p.at)))

-- a trace that has opened, on a table's memory
pub record Walks (config : Config) (b trace : List ℕ) (r : Ending) (b' : List ℕ) : Type 0 where
  pub end : ◌≡◌ {A = After} (record { answer = r; table = b' }) (walked config (record { table = b; clock = 0; frames = 0; reply = [] }) (fields_in trace))
