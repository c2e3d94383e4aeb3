-- What `put_served` answers and leaves, by whether there is room.
use native.Mathlib.Omega.{arith}
use Prim.Native.Nat.{ℕ, ◌+◌, ◌≤◌, ◌<◌}
use mathlib.Core.Path.{◌≡◌, sym}
use mathlib.Core.List.{List}
use borrow.Author.Tests.{le-leb, lt-leb}
use lib.ListN.{length}
use Rattle.octets.specs.Parts.{written}
use Rattle.octets.proofs.Lists.{written-not, then-two}
use Rattle.trace_writer.specs.Writing.{field_bytes, clock_fields, frame_fields, length_put}
use Rattle.trace_writer.proofs.FieldLaws.{length-field, length-frame}

module _ (out : List ℕ) (last clock : ℕ) (frame reply : List ℕ) (n : ℕ) (e : n ≡ length (clock_fields last clock)) where
  abbrev all : List ℕ
  all = frame_fields last clock frame reply

  size : length all ≡ n + 3 + 3 + length frame + length reply
  size = omega (arith, e, length-frame last clock frame reply)

  pub left_out : length out < n + 3 + 3 + length frame + length reply → (0 ≡ length_put (length out) all) × (out ≡ written out 0 all)
  left_out h = (rw (lt-leb (length all) (length out) (omega (arith, size))), sym (written-not out 0 all (omega (arith, size))))

  pub put_in : (out₁ out₂ out₃ : List ℕ) → n + 3 + 3 + length frame + length reply ≤ length out → out₁ ≡ written out 0 (clock_fields last clock)
      → out₂ ≡ written out₁ n (field_bytes 2 frame) → out₃ ≡ written out₂ (n + 3 + length frame) (field_bytes 3 reply)
      → (n + 3 + length frame + 3 + length reply ≡ length_put (length out) all) × (out₃ ≡ written out 0 all)
  unfolding frame_fields
  put_in out₁ out₂ out₃ h p q r = (
    rw (le-leb (length all) (length out) (omega (arith, size))) (omega (arith, size)),
    then-two out out₁ out₂ out₃ 0 n (n + 3 + length frame) (clock_fields last clock) (field_bytes 2 frame) (field_bytes 3 reply) p q r
        (omega (arith, e)) (omega (arith, length-field 2 frame)) (omega (arith, length-field 3 reply)),
  )
