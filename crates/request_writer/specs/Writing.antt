-- Writing a request: "The writer takes these fields and refuses with status 0x04 exactly if reading the frame would refuse for any cause, lengths no header holds included,
-- then with outcome 4 exactly if the room is too small for that frame; the output is then unchanged. Otherwise bytes past the frame are unchanged."
use Rattle.std.specs.Prelude.{ℕ, ◌+◌, ◌^◌, ◌<◌, List, ◌++◌, Bool, not, ◌&&◌, cond, length, ltb, eqb}
use Rattle.std.specs.declared.result.Result.{Result}
use Rattle.std.specs.declared.result.Result.TheVariants.{Ok, Err}
use Rattle.octets.specs.Parts.{written}
use Rattle.header.specs.Header.{header_bytes}
use Rattle.header.specs.declared.Header.{Header}
use Rattle.request.specs.declared.Fields.{Fields}
use Rattle.request.specs.Reading.{Reading, reading_outcome, reading_status, reading}
use Rattle.request_writer.specs.declared.WriteError.{WriteError}
use Rattle.request_writer.specs.declared.WriteError.TheVariants.{Refused as NotWritten, NoRoom as NoRoomFor}

-- the writer's answer: status 0x04, outcome 4, or the length of the frame that was written
pub data Written : Type 0 where
  Refused : Written
  NoRoom : Written
  Wrote : ℕ → Written

-- what the code answers
abbrev pub error_told : WriteError → Written
error_told NotWritten = Refused
error_told NoRoomFor = NoRoom

abbrev pub written_told : Result ℕ WriteError → Written
written_told (Ok n) = Wrote n
written_told (Err error) = error_told error

-- 01's numbers for an answer of the writer: status 0x04 or outcome 4, 0 where the frame was written
abbrev pub status_no : Written → ℕ
status_no Refused = 0x04
status_no NoRoom = 0
status_no (Wrote n) = 0

abbrev pub outcome_no : Written → ℕ
outcome_no Refused = 0
outcome_no NoRoom = 4
outcome_no (Wrote n) = 0

-- the header of a request with these fields and these lengths of extras, key and value
unfoldable pub header_for : Fields → ℕ → ℕ → ℕ → Header
header_for f e k v = record {
  magic = 0x80;
  opcode = f.opcode;
  keylen = k;
  extlen = e;
  datatype = f.datatype;
  vbucket = f.vbucket;
  body = e + k + v;
  opaque = f.opaque;
  cas = f.cas;
}

unfoldable pub frame_bytes : Fields → List ℕ → List ℕ → List ℕ → List ℕ
unfolding header_for
frame_bytes f extras key value = header_bytes (header_for f (length extras) (length key) (length value)) ++ (extras ++ (key ++ value))

-- a header holds these lengths: one byte for the extras', two for the key's, four for the body's
unfoldable pub lengths_held : ℕ → ℕ → ℕ → Bool
lengths_held e k v = ltb e 256 && (ltb k 65536 && ltb (e + k + v) (2 ^ 32))

-- 01's number for this answer of the reader is an outcome or a status other than 0
abbrev pub refuses : Reading → Bool
refuses r = not (eqb (reading_outcome r) 0 && eqb (reading_status r) 0)

-- what the writer answers for a room of so many bytes
unfoldable pub writing : Fields → List ℕ → List ℕ → List ℕ → ℕ → Written
unfolding frame_bytes lengths_held
writing f extras key value room =
    cond (not (lengths_held (length extras) (length key) (length value))) Refused
    (cond (refuses (reading (frame_bytes f extras key value))) Refused
    (cond (ltb room (length (frame_bytes f extras key value))) NoRoom
    (Wrote (length (frame_bytes f extras key value)))))

-- the output after that answer
abbrev pub output_of : Written → List ℕ → List ℕ → List ℕ
output_of Refused frame out = out
output_of NoRoom frame out = out
output_of (Wrote n) frame out = written out 0 frame

-- every field fits its place, as it does in every value of the declared type
pub record FieldsFit (f : Fields) : Type 0 where
  pub opcode : f.opcode < 256
  pub datatype : f.datatype < 256
  pub vbucket : f.vbucket < 65536
  pub opaque : f.opaque < 2 ^ 32
  pub cas : f.cas.0 < 2 ^ 64
