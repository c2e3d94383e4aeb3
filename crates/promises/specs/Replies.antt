-- The reply area under serving, whatever the table, the clock and the received bytes: a reply fits the room that serving asks for, the reply to another status than 0 is a bare header, and a touch and a join are answered what order 4 says. Proved in proofs/Replies.antt and Answered.antt.
use Rattle.std.specs.Prelude.{ℕ, ◌+◌, ◌^◌, ◌≤◌, ◌<◌, ◌≡◌, Bool, true, cond, ◌&&◌, List, [], ◌∷◌, ◌++◌, length, drop, replicate, eqb, Some}
use Rattle.engine.specs.declared.Config.{Config}
use Rattle.octets.specs.Parts.{Bytes, part}
use Rattle.octets.specs.BigEndian.{num, bytes_of}
use Rattle.document.specs.Documents.{Doc}
use Rattle.shape.specs.Shapes.{among}
use Rattle.header.specs.Header.{header_of}
use Rattle.serving.specs.Serve.{Done, served, served_table, served_reply}
use Rattle.promises.specs.Merge.{doc_at}
use Rattle.promises.specs.Expiry.{opcode, key_in, gets, sets, adds, replaces, deletes, counters, with_metas, touches, joins}

-- "reply length, maybe 0; reply bytes past it unchanged": the area after a reply of so many bytes
pub record Fits (out : List ℕ) (len : ℕ) (out' : List ℕ) : Type 0 where
  -- never over the room that serving asks for, so that it fits
  pub most : len ≤ 1302
  pub inside : len ≤ length out
  pub size : length out' ≡ length out
  pub past : drop len out' ≡ drop len out

-- it rules out a store whose longest reply, to GetK for a key of 250 bytes with a value of 1,024, is cut or runs over what follows it
abbrev pub ReplyFits : Config → Type 0
ReplyFits config =
    (b : List ℕ) (clock : ℕ) (s out : List ℕ) (status used len : ℕ) → Bytes b → served config b clock s (length out) ≡ Done status used len
    → Fits out len (served_reply config b clock s out)

-- "Its reply is a bare header with that status, the opcode and opaque echoed, CAS 0.": byte by byte, to the received bytes
abbrev pub bare_reply : ℕ → List ℕ → List ℕ
bare_reply status s =
    -- magic, opcode, key length
    (0x81 ∷ part s 1 1 ++ (0 ∷ 0 ∷ []))
    -- extras length, datatype, status
    ++ ((0 ∷ 0 ∷ bytes_of 2 status)
    -- body length, opaque, CAS
    ++ ((0 ∷ 0 ∷ 0 ∷ 0 ∷ []) ++ (part s 12 4 ++ replicate {A = ℕ} 8 0)))

-- "GetQ 09 [..] GetKQ 0d"; "The quiet two send nothing on 0x01."
abbrev pub silent_miss : ℕ → ℕ → Bool
silent_miss opcode status = among opcode (0x09 ∷ 0x0d ∷ []) && eqb status 0x01

abbrev pub status_reply : ℕ → List ℕ → List ℕ
status_reply status s = cond (silent_miss (num s 1 1) status) [] (bare_reply status s)

-- it rules out a store that shows the value, or its CAS, beside 0x02, and one whose quiet Set says nothing of 0x82
abbrev pub StatusReply : Config → Type 0
StatusReply config =
    (b : List ℕ) (clock : ℕ) (s out : List ℕ) (status used len : ℕ) → Bytes s → served config b clock s (length out) ≡ Done status used len → (status ≡ 0 → ⊥)
    → (len ≡ length (status_reply status s)) × (served_reply config b clock s out ≡ status_reply status s ++ drop len out)

-- ---- a reply with status 0, byte by byte, to the received bytes: extras, key, value and CAS are as its command says
abbrev pub good_reply : List ℕ → List ℕ → List ℕ → List ℕ → ℕ → List ℕ
good_reply s extras key value cas =
    let body = extras ++ (key ++ value) in
    -- magic, opcode, key length
    ((0x81 ∷ part s 1 1 ++ bytes_of 2 (length key))
    -- extras length, datatype, status
    ++ ((bytes_of 1 (length extras) ++ (0 ∷ 0 ∷ 0 ∷ []))
    -- body length, opaque, CAS
    ++ (bytes_of 4 (length body) ++ (part s 12 4 ++ bytes_of 8 cas))))
    ++ body

-- ---- order 4: "Touch replies with a bare header, Get-and-touch as Get does."
-- where a document is shown, "flags as 4 extras bytes, [..] value"
abbrev pub touch_reply : List ℕ → Bool → ℕ → List ℕ → ℕ → List ℕ
touch_reply s shown flags value cas = good_reply s (cond shown (bytes_of 4 flags) []) [] (cond shown value []) cas

-- "Its reply carries the new CAS.": that of the document which the key has then, with the flags and the value that it had. It rules out a Get-and-touch whose reply has the CAS from before it, and one that shows nothing
abbrev pub TouchReplies : Config → Type 0
TouchReplies config =
    (b : List ℕ) (clock : ℕ) (s out : List ℕ) (d : Doc) (len : ℕ) → Bytes b → Bytes s → clock < 2 ^ 32 → doc_at b (key_in s) ≡ Some d
    → among (opcode s) touches ≡ true → served config b clock s (length out) ≡ Done 0 (24 + (header_of s).body) len
    → (e : Doc) × ((doc_at (served_table config b clock s (length out)) (key_in s) ≡ Some e)
    × ((len ≡ length (touch_reply s (eqb (opcode s) 0x1d) d.numbers.flags d.value e.numbers.cas.0))
    × (served_reply config b clock s out ≡ touch_reply s (eqb (opcode s) 0x1d) d.numbers.flags d.value e.numbers.cas.0 ++ drop len out)))

-- Append and Prepend: a bare header with the CAS stored, and nothing to the quiet two: "Quiet writes send nothing on status 0."
abbrev pub join_reply : List ℕ → ℕ → List ℕ
join_reply s cas = cond (among (opcode s) (0x19 ∷ 0x1a ∷ [])) [] (good_reply s [] [] [] cas)

abbrev pub JoinReplies : Config → Type 0
JoinReplies config =
    (b : List ℕ) (clock : ℕ) (s out : List ℕ) (d : Doc) (len : ℕ) → Bytes b → Bytes s → clock < 2 ^ 32 → doc_at b (key_in s) ≡ Some d
    → among (opcode s) joins ≡ true → served config b clock s (length out) ≡ Done 0 (24 + (header_of s).body) len
    → (e : Doc) × ((doc_at (served_table config b clock s (length out)) (key_in s) ≡ Some e)
    × ((len ≡ length (join_reply s e.numbers.cas.0)) × (served_reply config b clock s out ≡ join_reply s e.numbers.cas.0 ++ drop len out)))

-- ---- every write
-- their opcodes, loud and quiet
abbrev pub writers : List ℕ
writers = sets ++ (adds ++ (replaces ++ (deletes ++ (counters ++ (with_metas ++ (touches ++ joins))))))

-- "Its reply carries the new CAS."; "The reply carries the stored CAS.": a write with status 0 that is answered has the CAS of the document which its key has then, in the reply's eight bytes from 16 on.
-- It rules out a Set whose reply has the CAS from before it
abbrev pub WriteReplies : Config → Type 0
WriteReplies config =
    (b : List ℕ) (clock : ℕ) (s out : List ℕ) (len : ℕ) → Bytes b → Bytes s → clock < 2 ^ 32 → among (opcode s) writers ≡ true
    → served config b clock s (length out) ≡ Done 0 (24 + (header_of s).body) len → (len ≡ 0 → ⊥)
    → (e : Doc) × ((doc_at (served_table config b clock s (length out)) (key_in s) ≡ Some e) × (part (served_reply config b clock s out) 16 8 ≡ bytes_of 8 e.numbers.cas.0))

-- Get: "Reply: flags as 4 extras bytes, key for 0c/0d, value, CAS."
abbrev pub get_reply : List ℕ → Doc → List ℕ
get_reply s d = good_reply s (bytes_of 4 d.numbers.flags) (cond (among (opcode s) (0x0c ∷ 0x0d ∷ [])) (key_in s) []) d.value d.numbers.cas.0

-- it rules out a Get that shows another row's value or CAS, and a GetK without the key
abbrev pub GetReplies : Config → Type 0
GetReplies config =
    (b : List ℕ) (clock : ℕ) (s out : List ℕ) (d : Doc) (len : ℕ) → Bytes b → Bytes s → doc_at b (key_in s) ≡ Some d
    → among (opcode s) gets ≡ true → served config b clock s (length out) ≡ Done 0 (24 + (header_of s).body) len
    → (len ≡ length (get_reply s d)) × (served_reply config b clock s out ≡ get_reply s d ++ drop len out)
