-- Demand 3 on bytes: a whole list of serving calls with opcodes a2, a3, a8 and a9, from any undamaged active table.
use Rattle.std.specs.Prelude.{is_some, ℕ, ◌^◌, ◌≤◌, ◌<◌, ◌≡◌, true, false, List, [], ◌∷◌, ◌++◌, map, length, Option, Some}
use Rattle.engine.specs.declared.Config.{Config}
use Rattle.octets.specs.Parts.{Bytes}
use Rattle.numbers.specs.declared.Mode.{Mode}
use Rattle.numbers.specs.declared.Mode.TheVariants.{ByRevision, LastWrite}
use Rattle.numbers.specs.Order.{mode_of}
use Rattle.document.specs.Documents.{Key, Doc, Entry}
use Rattle.document.specs.Head.{marked, clocked}
use Rattle.shape.specs.Shapes.{among, shape_of}
use Rattle.header.specs.Header.{header_of}
use Rattle.with_meta.specs.WithMeta.{with_meta}
use Rattle.request.specs.Reading.{Whole, gate_of, frame_status, extras_span, key_span, bytes_in}
use Rattle.decision.specs.Merging.{carried, meta_in}
use Rattle.decode.specs.Decode.{command_of, bare_value}
use Rattle.rows.specs.Table.{table_of}
use Rattle.engines.specs.Damage.{sound_by}
use Rattle.rows.specs.Find.{find_row, free_rows}
use Rattle.merge.specs.Writes.{◌∈◌, Greatest, option_list, for, is_written, new_keys, latest, largest_cas, verdicts, applied}
use Rattle.merge.specs.Merge.{All}
use Rattle.promises.specs.Calls.{Call, bytes_after, call_outcomes, call_statuses}

-- a key's document in a table's memory: "what its row holds, expired or not"
abbrev pub doc_at : List ℕ → Key → Option Doc
doc_at b k = find_row (table_of b).rows k

abbrev pub mode_at : List ℕ → Mode
mode_at b = mode_of (table_of b).head.mode

-- the key and the document or tombstone that a frame carries
abbrev pub carried_by : Call → Entry
carried_by c =
    let s = c.received in
    let h = header_of s in
    record { key = bytes_in s (key_span h); doc = carried (bare_value s h) (meta_in (command_of (shape_of h.opcode).operation (bytes_in s (extras_span h)))) }

-- the options that the mode asks for, and no other
abbrev pub options_for : Mode → ℕ
options_for ByRevision = 0
options_for LastWrite = 2

-- "set-with-meta and delete-with-meta writes for its vbucket that break no form, field or size rule of its mode, with header CAS 0 and none of options 0x01, 0x04, 0x08", each with outcome 0
pub record MergingCall (m : Mode) (vbucket : ℕ) (c : Call) : Type 0 where
  pub bytes : Bytes c.received
  -- "seconds since 1970 in 32 bits"
  pub clock : c.clock < 2 ^ 32
  pub room : 1302 ≤ length c.reply
  pub whole : gate_of c.received ≡ Whole (header_of c.received)
  pub opcode : among (header_of c.received).opcode (0xa2 ∷ 0xa3 ∷ 0xa8 ∷ 0xa9 ∷ []) ≡ true
  pub form : frame_status c.received (header_of c.received) ≡ 0
  pub options : (with_meta (bytes_in c.received (extras_span (header_of c.received)))).options ≡ options_for m
  pub here : (header_of c.received).vbucket ≡ vbucket
  pub header-cas : (header_of c.received).cas.0 ≡ 0

abbrev pub clocks : List Call → List ℕ
clocks cs = map (λ c. c.clock) cs

abbrev pub writes : List Call → List Entry
writes cs = map carried_by cs

abbrev pub candidates : List ℕ → List Call → Key → List Doc
candidates b cs k = option_list (doc_at b k) ++ for k (writes cs)

pub record Premises (config : Config) (b : List ℕ) (cs : List Call) : Type 0 where
  -- "start from any undamaged active table"
  pub bytes : Bytes b
  pub undamaged : sound_by config b ≡ true
  pub active : (table_of b).head.state ≡ 1
  pub merging : All (MergingCall (mode_at b) (table_of b).head.vbucket) cs
  -- "New keys have a write in the list and no row at the start; at least as many rows are free then."
  pub room : new_keys (λ k. is_some (doc_at b k)) (writes cs) ≤ free_rows (table_of b).rows
  -- "documents for a key that agree in all four numbers being the same"
  pub unique : (k : Key) (x y : Doc) → x ∈ candidates b cs k → y ∈ candidates b cs k → x.numbers ≡ y.numbers → x ≡ y

pub record Merged (config : Config) (b : List ℕ) (cs : List Call) : Type 0 where
  -- "each written key ends with the greatest, in the published order, of the documents that its writes carry and the one stored at the start"
  pub winner : (k : Key) → is_written k (writes cs) ≡ true
      → (d : Doc) × (doc_at (bytes_after config b cs) k ≡ Some d) × Greatest (mode_at b) d (candidates b cs k)
  -- "Every other document is as before, and no other key gains one."
  pub others : (k : Key) → is_written k (writes cs) ≡ false → doc_at (bytes_after config b cs) k ≡ doc_at b k
  -- "each with outcome 0"
  pub served : All (λ n. n ≡ 0) (call_outcomes config b cs)
  pub statuses : call_statuses config b cs ≡ verdicts (mode_at b) (doc_at b) [] (writes cs)
  -- "The mark ends as the largest of itself and the CAS numbers of the writes with status 0"; order 2: "the kept clock ends as the greatest of itself and those given"; nothing else of the head changes
  pub head : (table_of (bytes_after config b cs)).head
      ≡ marked (clocked (table_of b).head (latest (table_of b).head.clock (clocks cs)))
      (largest_cas (table_of b).head.mark.0 (applied (call_statuses config b cs) (writes cs)))
  -- "in last-write-wins, of all the writes"
  pub mark-last : mode_at b ≡ LastWrite → (table_of (bytes_after config b cs)).head.mark.0 ≡ largest_cas (table_of b).head.mark.0 (writes cs)
  pub undamaged : sound_by config (bytes_after config b cs) ≡ true

abbrev pub Demand3 : Config → Type 0
Demand3 config = (b : List ℕ) (cs : List Call) → Premises config b cs → Merged config b cs
