-- The claims of specs/Claims.antt.
use Rattle.std.specs.Prelude.{Option, Some}
use native.Mathlib.Omega.{arith}
use Prim.Native.Nat.{ℕ, zero, suc, ◌+◌, ◌^◌, ◌≤◌, ◌<◌}
use mathlib.Core.Path.{◌≡◌, refl, ap, ◌∙◌}
use mathlib.Core.Bool.{Bool, true, false, ◌||◌}
use mathlib.Core.List.{List, [], ◌∷◌, ◌++◌}
use lib.ListN.{length, take, drop, length-append}
use lib.Seq.{take_at, drop_at}
use lib.Dec.{eqb}
use borrow.Author.Tests.{le-ltb}
use Rattle.octets.specs.Parts.{part}
use Rattle.octets.specs.BigEndian.{be_from, be, num, bytes_of}
use Rattle.octets.proofs.Numbers.{length-bytes, be-bytes}
use Rattle.trace.specs.declared.Field.{Field}
use Rattle.trace.specs.declared.Field.TheVariants.{Clock, Frame, Reply, Purge, Rule}
use Rattle.trace.specs.Trace.{opening_of, field_by, field_of, forcing_by, forcing_in}
use Rattle.trace_writer.specs.Writing.{field_bytes, rule_byte, rule_field, opening_bytes}
use Rattle.trace_writer.specs.Claims.{FieldBack, ClockBack, FrameBack, ReplyBack, PurgeBack, RuleBack, OpensBack, OpeningBack}
use Rattle.trace_writer.proofs.FieldLaws.{length-opening, length-field}

-- a field of which all bytes are there
whole : (s : List ℕ) (tag n : ℕ) → num s 0 1 ≡ tag → num s 1 2 ≡ n → 3 + n ≤ length s → field_of s ≡ field_by tag n s
unfolding field_of
whole s tag n e f h = rw (f, e, le-ltb (length s) 3 (omega arith), le-ltb (length s) (3 + n) h)

held : (tag : ℕ) (xs rest : List ℕ) → drop 3 (field_bytes tag xs ++ rest) ≡ xs ++ rest
unfolding field_bytes bytes_of
held tag xs rest = refl

module _ (tag : ℕ) (xs rest : List ℕ) (t : tag < 256) (h : length xs < 65536) where
  abbrev s : List ℕ
  s = field_bytes tag xs ++ rest

  tag_back : num s 0 1 ≡ tag
  unfolding field_bytes bytes_of be be_from
  tag_back = omega (arith, t)

  length_back : num s 1 2 ≡ length xs
  unfolding field_bytes bytes_of be be_from
  length_back = omega (arith, h)

  field-by : (f : Option Field) → field_by tag (length xs) s ≡ f → FieldBack tag xs rest f
  field-by f e = record {
    field = whole s tag (length xs) tag_back length_back (omega (arith, length-append (field_bytes tag xs) rest, length-field tag xs)) ∙ e;
    length-said = length_back;
    bytes = ap (part s 3) length_back ∙ ap (take (length xs)) (held tag xs rest) ∙ take_at xs rest (length xs) refl;
    after = drop_at (field_bytes tag xs) rest (3 + length xs) (length-field tag xs);
  }

-- a number that a field holds
number-back : (tag n v : ℕ) (rest : List ℕ) → v < 256 ^ n → num (field_bytes tag (bytes_of n v) ++ rest) 3 n ≡ v
number-back tag n v rest h =
    ap (λ (xs : List ℕ). be (take n xs)) (held tag (bytes_of n v) rest) ∙ ap be (take_at (bytes_of n v) rest n (length-bytes n v)) ∙ be-bytes n v h

pub clock-back : ClockBack
unfolding field_by
clock-back clock rest h =
    let l : length (bytes_of 4 clock) ≡ 4 = length-bytes 4 clock in
    field-by 1 (bytes_of 4 clock) rest (omega arith) (omega arith) (Some (Clock clock)) (rw l (ap (λ (n : ℕ). Some (Clock n)) (number-back 1 4 clock rest h)))

pub purge-back : PurgeBack
unfolding field_by
purge-back bound rest h =
    let l : length (bytes_of 8 bound) ≡ 8 = length-bytes 8 bound in
    field-by 4 (bytes_of 8 bound) rest (omega arith) (omega arith) (Some (Purge (record { 0 = bound }))) (rw l (ap (λ (n : ℕ). Some (Purge (record { 0 = n }))) (number-back 4 8 bound rest h)))

pub frame_back : FrameBack
unfolding field_by
frame_back frame rest h = field-by 2 frame rest (omega arith) h (Some (Frame (length frame))) refl

pub reply-back : ReplyBack
unfolding field_by
reply-back reply rest h = field-by 3 reply rest (omega arith) h (Some (Reply (length reply))) refl

rule-by : (forcing : Bool) (rest : List ℕ) → field_by 5 1 (rule_field forcing ++ rest) ≡ Some (Rule forcing)
unfolding field_by field_bytes bytes_of be be_from
rule-by true rest = refl
rule-by false rest = refl

pub rule-back : RuleBack
rule-back forcing rest = field-by 5 (rule_byte forcing ∷ []) rest (omega arith) (omega arith) (Some (Rule forcing)) (rule-by forcing rest)

opened : (s : List ℕ) (mode vbucket : ℕ) → num s 0 1 ≡ mode → num s 1 2 ≡ vbucket → (eqb mode 1 || eqb mode 2) ≡ true → 3 ≤ length s → length s ≤ 65536
    → opening_of s ≡ Some (record { mode = mode; vbucket = vbucket })
unfolding opening_of
opened s mode vbucket e f m h k = rw (e, f, m, le-ltb 65536 (length s) k, le-ltb (length s) 3 h)

is-mode : (mode : ℕ) → 1 ≤ mode → mode ≤ 2 → (eqb mode 1 || eqb mode 2) ≡ true
is-mode zero h k = absurd (omega (arith, h))
is-mode (suc zero) h k = refl
is-mode (suc (suc zero)) h k = refl
is-mode (suc (suc (suc n))) h k = absurd (omega (arith, k))

module _ (mode vbucket : ℕ) (rest : List ℕ) (a : 1 ≤ mode) (b : mode ≤ 2) (v : vbucket < 65536) (l : length rest ≤ 65529) where
  abbrev trace : List ℕ
  trace = opening_bytes mode vbucket ++ rest

  mode-back : num trace 0 1 ≡ mode
  unfolding opening_bytes bytes_of be be_from
  mode-back = omega (arith, b)

  vbucket-back : num trace 1 2 ≡ vbucket
  unfolding opening_bytes bytes_of be be_from
  vbucket-back = omega (arith, v)

  size : length trace ≡ 7 + length rest
  size = omega (arith, length-append (opening_bytes mode vbucket) rest, length-opening mode vbucket)

  fields : drop 3 trace ≡ rule_field false ++ rest
  unfolding opening_bytes bytes_of
  fields = refl

  pub opens : OpensBack mode vbucket rest trace
  unfolding forcing_in
  opens = record {
    opening = opened trace mode vbucket mode-back vbucket-back (is-mode mode a b) (omega (arith, size)) (omega (arith, size, l));
    fields = fields;
    forcing = ap (λ (s : List ℕ). forcing_by (field_of s)) fields ∙ ap forcing_by (rule-back false rest).field;
  }

pub opening-back : OpeningBack
opening-back mode vbucket rest a b v l = opens mode vbucket rest a b v l
