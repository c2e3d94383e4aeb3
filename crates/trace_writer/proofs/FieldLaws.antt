-- Whether there is room, and the lengths of what is written.
use native.Mathlib.Omega.{arith}
use Prim.Native.Nat.{ℕ, ◌+◌, ◌≤◌, ◌<◌}
use mathlib.Core.Path.{◌≡◌, sym, ap, ◌∙◌}
use mathlib.Core.Bool.{Bool, true, false, not}
use borrow.Author.Tests.{leb-true, leb-false, not-true, not-false}
use mathlib.Core.List.{List, [], ◌∷◌, ◌++◌}
use lib.ListN.{length, length-append}
use lib.Dec.{leb, eqb}
use Rattle.octets.specs.BigEndian.{bytes_of}
use Rattle.octets.proofs.Choices.{cases}
use Rattle.octets.proofs.Numbers.{length-bytes}
use Rattle.trace_writer.specs.Writing.{field_bytes, rule_byte, rule_field, opening_bytes, clock_fields, frame_fields}

module _ (room a b c : ℕ) (r : Bool) (e : r ≡ leb (a + b + c) room) where
  pub has_room : not r ≡ false → a + b + c ≤ room
  has_room f = leb-true (a + b + c) room (sym e ∙ not-false r f)

  pub no_room : not r ≡ true → room < a + b + c
  no_room t = leb-false (a + b + c) room (sym e ∙ not-true r t)

pub length-field : (tag : ℕ) (xs : List ℕ) → length (field_bytes tag xs) ≡ 3 + length xs
unfolding field_bytes
length-field tag xs = simp (length-append, length-bytes) (omega arith)

pub length-rule : (forcing : Bool) → length (rule_field forcing) ≡ 4
length-rule forcing = length-field 5 (rule_byte forcing ∷ [])

pub length-opening : (mode vbucket : ℕ) → length (opening_bytes mode vbucket) ≡ 7
unfolding opening_bytes
length-opening mode vbucket =
    let rest = bytes_of 2 vbucket ++ rule_field false in
    omega (arith, length-append (bytes_of 1 mode) rest, length-append (bytes_of 2 vbucket) (rule_field false), length-bytes 1 mode, length-bytes 2 vbucket, length-rule false)

pub clock-same : (last clock : ℕ) → eqb clock last ≡ true → clock_fields last clock ≡ []
unfolding clock_fields
clock-same last clock e = rw e

pub clock-other : (last clock : ℕ) → eqb clock last ≡ false → clock_fields last clock ≡ field_bytes 1 (bytes_of 4 clock)
unfolding clock_fields
clock-other last clock e = rw e

pub length-frame : (last clock : ℕ) (frame reply : List ℕ)
    → length (frame_fields last clock frame reply) ≡ length (clock_fields last clock) + (3 + length frame) + (3 + length reply)
unfolding frame_fields
length-frame last clock frame reply =
    let c = clock_fields last clock in
    let f = field_bytes 2 frame in
    let r = field_bytes 3 reply in
    omega (arith, length-append c (f ++ r), length-append f r, length-field 2 frame, length-field 3 reply)

pub frame-most : (last clock : ℕ) (frame reply : List ℕ) → length (frame_fields last clock frame reply) ≤ 13 + length frame + length reply
frame-most last clock frame reply =
    cases (eqb clock last)
    (λ t. omega (arith, length-frame last clock frame reply, ap length (clock-same last clock t)))
    (λ f. omega (arith, length-frame last clock frame reply, ap length (clock-other last clock f), length-field 1 (bytes_of 4 clock), length-bytes 4 clock))
