-- What is claimed of reader and writer together, over any fields, parts and bytes. The proofs are in proofs/RoundTrip.antt.
use Rattle.std.specs.Prelude.{ℕ, ◌+◌, ◌≤◌, ◌≡◌, List, ◌++◌, true, length, take}
use Rattle.octets.specs.Parts.{Bytes}
use Rattle.header.specs.declared.Header.{Header}
use Rattle.header.specs.Header.{HeaderFits as HeaderFits}
use Rattle.request.specs.declared.Fields.{Fields}
use Rattle.request.specs.declared.Frame.{Frame}
use Rattle.request.specs.Reading.{Accepted, reading, bytes_in}
use Rattle.request_writer.specs.Writing.{Refused, Wrote, frame_bytes, lengths_held, refuses, writing, output_of, FieldsFit}

-- these bytes are read as a request with these fields and these parts
pub record Reads (s : List ℕ) (f : Fields) (extras key value : List ℕ) : Type 0 where
  pub frame : Frame
  pub accepted : reading s ≡ Accepted frame
  pub same-fields : frame.fields ≡ f
  pub same-extras : bytes_in s frame.extras ≡ extras
  pub same_key : bytes_in s frame.key ≡ key
  pub same-value : bytes_in s frame.value ≡ value

-- a request that our writer writes is read back as the same request: from the whole output, whatever stood in it before
abbrev pub WrittenReads : Type 0
WrittenReads =
    (f : Fields) (extras key value out : List ℕ) (n : ℕ) → FieldsFit f → writing f extras key value (length out) ≡ Wrote n
    → Reads (output_of (Wrote n) (frame_bytes f extras key value) out) f extras key value

-- a frame of n bytes at the start of s, written again from what reading showed of it
pub record Writes (s : List ℕ) (g : Frame) (n : ℕ) : Type 0 where
  pub there : n ≤ length s
  pub same_bytes : frame_bytes g.fields (bytes_in s g.extras) (bytes_in s g.key) (bytes_in s g.value) ≡ take n s
  pub accepted : (room : ℕ) → n ≤ room → writing g.fields (bytes_in s g.extras) (bytes_in s g.key) (bytes_in s g.value) room ≡ Wrote n

-- one that was read, written again, is the same bytes: the frame ends where its value ends
abbrev pub ReadWrites : Type 0
ReadWrites = (s : List ℕ) (g : Frame) → Bytes s → reading s ≡ Accepted g → Writes s g (g.value.at + g.value.len)

-- a request that the writer refuses is refused by the reader, whatever follows its frame; only lengths that no header holds have no frame
abbrev pub RefusedReads : Type 0
RefusedReads =
    (f : Fields) (extras key value rest : List ℕ) (room : ℕ) → FieldsFit f → lengths_held (length extras) (length key) (length value) ≡ true
    → writing f extras key value room ≡ Refused → refuses (reading (frame_bytes f extras key value ++ rest)) ≡ true

-- every length that a header can state is held
abbrev pub HeaderHolds : Type 0
HeaderHolds = (h : Header) → HeaderFits h → (v : ℕ) → h.extlen + h.keylen + v ≡ h.body → lengths_held h.extlen h.keylen v ≡ true
