-- Order 6, the line that the program writes: "`differs` and the place of the first tag 3 that isn't the last frame's reply [..]; `stopped` and a place; or `replayed` and the number of frames, all decimal", "one space in it".
use Rattle.std.specs.Prelude.{ℕ, List, [], ◌∷◌, ◌++◌}
use Rattle.digits.specs.Decimal.{digits}
use Rattle.replay.specs.Replay.{Ending, Damaged, Differs, Stopped, Replayed}

-- the words, each with the space after it
abbrev pub differs_text : List ℕ
differs_text = 100 ∷ 105 ∷ 102 ∷ 102 ∷ 101 ∷ 114 ∷ 115 ∷ 32 ∷ []

abbrev pub stopped_text : List ℕ
stopped_text = 115 ∷ 116 ∷ 111 ∷ 112 ∷ 112 ∷ 101 ∷ 100 ∷ 32 ∷ []

abbrev pub replayed_text : List ℕ
replayed_text = 114 ∷ 101 ∷ 112 ∷ 108 ∷ 97 ∷ 121 ∷ 101 ∷ 100 ∷ 32 ∷ []

-- a word, a number and a line feed
abbrev pub said : List ℕ → ℕ → List ℕ
said word n = word ++ (digits n ++ (10 ∷ []))

-- no line for lent memory of another size: the program lends the right one (proofs/Endings.antt)
abbrev pub line_of : Ending → List ℕ
line_of Damaged = []
line_of (Differs at) = said differs_text at
line_of (Stopped at) = said stopped_text at
line_of (Replayed n) = said replayed_text n
