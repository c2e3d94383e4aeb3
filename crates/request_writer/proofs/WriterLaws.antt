-- What the writer answers, by the tests that its code makes: lengths first, then the rules on the parts, then the room.
use Prim.Native.Nat.{ℕ, ◌+◌, ◌^◌, ◌≤◌, ◌<◌}
use mathlib.Core.Path.{◌≡◌, sym, ap, ◌∙◌}
use mathlib.Core.List.{List, [], append-nil}
use mathlib.Core.Bool.{true, false, ◌&&◌, cond}
use native.Mathlib.Omega.{arith}
use lib.ListN.{length}
use lib.Dec.{ltb, leb, eqb}
use borrow.Author.Tests.{le-ltb, lt-ltb, eq-eqb, ne_eqb, leb-true, leb-false}
use Rattle.octets.proofs.Choices.{cases, cond-elim, both}
use Rattle.std.specs.declared.option.Option.{Option}
use Rattle.std.specs.declared.option.Option.TheVariants.{Some, None}
use Rattle.header.specs.declared.Header.{Header}
use Rattle.rules.specs.Rules.{status}
use Rattle.request.specs.declared.Fields.{Fields}
use Rattle.request.specs.Reading.{Status, Accepted, reading, frame_of}
use Rattle.request_writer.specs.Writing.{Refused, NoRoom, Wrote, header_for, frame_bytes, lengths_held, refuses, writing, FieldsFit}
use Rattle.request_writer.proofs.Frames.{reading-long, reading-frame, length-frame, h, frame, body}

module _ (f : Fields) (extras key value : List ℕ) (room : ℕ) where
  size : ℕ
  size = length extras + length key + length value

  pub alone : frame f extras key value [] ≡ frame_bytes f extras key value
  unfolding frame
  alone = append-nil (frame_bytes f extras key value)

  pub frame-size : length (frame_bytes f extras key value) ≡ 24 + (length extras + length key + length value)
  frame-size = sym (ap length alone) ∙ length-frame f extras key value [] ∙ omega arith

  not-held : lengths_held (length extras) (length key) (length value) ≡ false → writing f extras key value room ≡ Refused
  unfolding writing
  not-held w = rw w

  by-reading : lengths_held (length extras) (length key) (length value) ≡ true → writing f extras key value room
      ≡ cond (refuses (reading (frame_bytes f extras key value))) Refused
      (cond (ltb room (24 + (length extras + length key + length value))) NoRoom (Wrote (24 + (length extras + length key + length value))))
  unfolding writing
  by-reading w = rw (w, frame-size)

  pub wide-extras : 255 < length extras → writing f extras key value room ≡ Refused
  unfolding lengths_held
  wide-extras l = not-held (rw (le-ltb (length extras) 256 l))

  pub small-held : length extras ≤ 255 → length extras + length key + length value ≤ 1400 → lengths_held (length extras) (length key) (length value) ≡ true
  unfolding lengths_held
  small-held e n = rw (lt-ltb (length extras) 256 (omega arith), lt-ltb (length key) 65536 (omega arith), lt-ltb (length extras + length key + length value) (2 ^ 32) (omega arith))

  module _ (p : FieldsFit f) where
    pub too_long : 1400 < length extras + length key + length value → writing f extras key value room ≡ Refused
    too_long l =
        cases (lengths_held (length extras) (length key) (length value))
        (λ w. by-reading w ∙ rw (sym (ap reading alone) ∙ reading-long f extras key value [] p w (unfold body in l)))
        not-held

    module _ (e : length extras ≤ 255) (n : length extras + length key + length value ≤ 1400) where
      is_read : reading (frame_bytes f extras key value)
          ≡ cond (eqb (status (header_for f (length extras) (length key) (length value)) extras value) 0)
          (Accepted (frame_of (frame f extras key value []) (h f extras key value [])))
          (Status (status (header_for f (length extras) (length key) (length value)) extras value))
      unfolding h body
      is_read = sym (ap reading alone) ∙ reading-frame f extras key value [] p (small-held e n) n

      pub against-rules : (status (header_for f (length extras) (length key) (length value)) extras value ≡ 0 → ⊥) → writing f extras key value room ≡ Refused
      against-rules s = by-reading (small-held e n) ∙ rw (is_read, ne_eqb _ _ s, ne_eqb _ _ s)

      module _ (s : status (header_for f (length extras) (length key) (length value)) extras value ≡ 0) where
        pub no_room : room < 24 + (length extras + length key + length value) → writing f extras key value room ≡ NoRoom
        no_room r = by-reading (small-held e n) ∙ rw (is_read, eq-eqb _ _ s, lt-ltb _ _ r)

        pub wrote : 24 + (length extras + length key + length value) ≤ room → writing f extras key value room ≡ Wrote (24 + (length extras + length key + length value))
        wrote r = by-reading (small-held e n) ∙ rw (is_read, eq-eqb _ _ s, le-ltb _ _ r)

-- the header that the code makes, where it makes one
abbrev made : Fields → ℕ → ℕ → ℕ → Option Header
made f e k v = cond (leb e 255 && leb (e + k + v) 1400) (Some (header_for f e k v)) None

pub record Headed (f : Fields) (e k v : ℕ) (x : Header) : Type 0 where
  pub header : x ≡ header_for f e k v
  pub narrow : e ≤ 255
  pub short : e + k + v ≤ 1400

pub headed : (f : Fields) (e k v : ℕ) (x : Header) → made f e k v ≡ Some x → Headed f e k v x
headed f e k v x m =
    cond-elim (leb e 255 && leb (e + k + v) 1400) _ _ _ m
    (λ t z. let (n, w) = both (leb e 255) (leb (e + k + v) 1400) t in
    record { header = cc; narrow = leb-true e 255 n; short = leb-true (e + k + v) 1400 w })
    (λ t z. absurd (let y : ◌≡◌ {A = ℕ} 0 1 = cc in omega arith))

pub headless : (f : Fields) (extras key value : List ℕ) (room : ℕ) → FieldsFit f → made f (length extras) (length key) (length value) ≡ None
    → writing f extras key value room ≡ Refused
headless f extras key value room p m =
    cond-elim (leb (length extras) 255 && leb (length extras + length key + length value) 1400) _ _ _ m
    (λ t z. absurd (let y : ◌≡◌ {A = ℕ} 0 1 = cc in omega arith))
    (λ t z. cases (leb (length extras) 255)
    (λ n. too_long f extras key value room p (leb-false (length extras + length key + length value) 1400 (rw n at t)))
    (λ n. wide-extras f extras key value room (leb-false (length extras) 255 n)))
