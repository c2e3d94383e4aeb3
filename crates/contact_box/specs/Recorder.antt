-- What a recorder stands at after each frame that was served. No contract can say what a file holds: `put_served`'s says what
-- is handed to be written, and here the trace grows by exactly that.
use Rattle.std.specs.Prelude.{ℕ, ◌+◌, ◌-◌, ◌≤◌, Bool, true, false, cond, ◌≡◌, List, ltb, length, ⊤}
use Rattle.std.specs.declared.option.Option.{Option}
use Rattle.std.specs.Io.KnownBytes.{Appends, Keeps}
use Rattle.numbers.specs.Growth.{next}
use Rattle.serving.specs.Serve.{Served, Refused, Done}
use Rattle.trace_writer.specs.Writing.{frame_fields}
use Rattle.contact_box.specs.declared.recorder.Recording.{Recording}
use Rattle.contact_box.specs.declared.recorder.Recording.TheVariants.{Off, On, Full, Failed}
use Rattle.contact_box.specs.declared.recorder.Recorder.{Recorder}

-- after the opening's three bytes and the rule's four
abbrev pub opened : Bool → Recorder
opened written =
    cond written
    (record { at = 7; frames = 0; clock = 0; recording = On })
    (record { at = 0; frames = 0; clock = 0; recording = Failed })

abbrev pub is_on : Recording → Bool
is_on Off = false
is_on On = true
is_on Full = false
is_on Failed = false

abbrev pub stopped : Recorder → Recording → Recorder
stopped r recording = record { at = r.at; frames = r.frames; clock = r.clock; recording = recording }

-- after n bytes more, which were written or not
abbrev pub grown : Recorder → ℕ → ℕ → Bool → Recorder
grown r clock n written =
    cond written (record { at = r.at + n; frames = next r.frames; clock = clock; recording = On }) (stopped r Failed)

-- a trace has at most 65,536 bytes: the fields of one more frame are written where they fit, else the recording stops at the place reached
pub record Grows (r : Recorder) (clock : ℕ) (fields : List ℕ) (x : Recorder) : Type 0 where
  pub written : Bool
  pub now : x ≡ cond (ltb (65536 - r.at) (length fields)) (stopped r Full) (grown r clock (length fields) written)

-- no frame is longer than 1,424 bytes, and no reply than 1,302
abbrev pub Short : Served → List ℕ → List ℕ → Type 0
Short (Refused n need) frame reply = Unit {0}
Short (Done status used len) frame reply = (length frame ≤ 1424) × (length reply ≤ 1302)

-- a call that served a frame
abbrev pub Records : Recorder → ℕ → Served → List ℕ → List ℕ → Recorder → Type 0
Records r clock (Refused n need) frame reply x = x ≡ r
Records r clock (Done status used len) frame reply x = Grows r clock (frame_fields r.clock clock frame reply) x

-- the bytes were handed to the trace's writer, all of them, where the recording goes on, and none where it is full
abbrev pub Hands : Recording → Option (List ℕ) → Option (List ℕ) → List ℕ → Type 0
Hands Off old new bytes = ⊤
Hands On old new bytes = Appends old new bytes
Hands Full old new bytes = Keeps old new
Hands Failed old new bytes = ⊤

-- a call that served a frame
abbrev pub HandsOn : Served → Recording → Option (List ℕ) → Option (List ℕ) → List ℕ → Type 0
HandsOn (Refused n need) recording old new bytes = Keeps old new
HandsOn (Done status used len) recording old new bytes = Hands recording old new bytes
