-- The bytes of order 6's trace, as they are recorded, and of order 9's rule.
use Rattle.std.specs.Prelude.{ℕ, List, [], ◌∷◌, ◌++◌, Bool, true, false, cond, length, leb, eqb}
use Rattle.octets.specs.BigEndian.{bytes_of}

-- "fields, one-byte tag and two-byte length"
unfoldable pub field_bytes : ℕ → List ℕ → List ℕ
field_bytes tag xs = bytes_of 1 tag ++ (bytes_of 2 (length xs) ++ xs)

-- whether force is taken: "tag 5 with one byte of 2; a 1 there means the old"
abbrev pub rule_byte : Bool → ℕ
rule_byte true = 1
rule_byte false = 2

abbrev pub rule_field : Bool → List ℕ
rule_field forcing = field_bytes 5 (rule_byte forcing ∷ [])

-- "A trace opens with one byte of mode [..] and two of vbucket"; what is recorded was served under the new rule, and "its first field is tag 5 with one byte of 2"
unfoldable pub opening_bytes : ℕ → ℕ → List ℕ
unfolding field_bytes
opening_bytes mode vbucket = bytes_of 1 mode ++ (bytes_of 2 vbucket ++ rule_field false)

-- "tag 1 clock (4 bytes)": a clock is told where it isn't the one that was told last, which is 0 before any
unfoldable pub clock_fields : ℕ → ℕ → List ℕ
unfolding field_bytes
clock_fields last clock = cond (eqb clock last) [] (field_bytes 1 (bytes_of 4 clock))

-- what one served frame adds: its clock, "tag 2 one request frame, tag 3 the reply expected for the frame before it", empty for a silent frame
unfoldable pub frame_fields : ℕ → ℕ → List ℕ → List ℕ → List ℕ
unfolding field_bytes clock_fields
frame_fields last clock frame reply = clock_fields last clock ++ (field_bytes 2 frame ++ field_bytes 3 reply)

-- the length of bytes that are written to so much room, 0 where they don't fit and nothing is
abbrev pub length_put : ℕ → List ℕ → ℕ
length_put room xs = cond (leb (length xs) room) (length xs) 0
