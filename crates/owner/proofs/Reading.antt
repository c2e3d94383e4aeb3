-- What reading and purging answer, by whether the table is damaged and by what is found.
use Prim.Native.Nat.{ℕ, ◌^◌, ◌<◌}
use mathlib.Core.Path.{◌≡◌, refl, sym, ap, ◌∙◌}
use mathlib.Core.Bool.{true, false, cond}
use mathlib.Core.List.{List}
use Rattle.std.specs.Prelude.{Option, Some, None, ℤ}
use Rattle.document.specs.declared.Metadata.{Metadata}
use lib.ListN.{length}
use Rattle.octets.specs.Parts.{Bytes, written}
use Rattle.octets.specs.BigEndian.{num, bytes_of}
use Rattle.octets.proofs.Choices.{cases}
use Rattle.numbers.specs.Expiry.{later, seconds_left, is_past, seconds_in}
use Rattle.document.specs.declared.Head.{Head}
use Rattle.document.specs.Documents.{Key, Doc, doc_value}
use Rattle.document.specs.Stored.{stored_of, is_document, numbers_of, gone_doc}
use Rattle.rows.specs.Row.{Row}
use Rattle.rows.specs.Table.{head_of, table_of, table_at, clock_at, table_bytes}
use Rattle.rows.specs.Find.{find_row, value_place}
use Rattle.engine.specs.declared.Config.{Config}
use Rattle.plain_writer.specs.Change.{freed_rows}
use Rattle.engines.specs.Damage.{sound_by}
use Rattle.engines.proofs.Tables.{sound-good-by, clock-good-by, clock-put}
use Rattle.table.specs.declared.Lookup.{Lookup}
use Rattle.table.specs.Calls.{lookup_of, purged_by}
use Rattle.table.proofs.Looking.{finds-sound}
use Rattle.table.proofs.Keeping.{purges-good}
use Rattle.owning.specs.Owner.{NotPurged, Freed, Document, Damaged, Missing, Expired, Live, shown, read_of, purge_of, purged_bytes}
use Rattle.owner.specs.Shown.{shown_by}
use Rattle.owner.specs.Purging.{purge_step}

-- a lookup, by whether its row is a document, and by the time that is left to it
module _ (clock : ℕ) (l : Lookup) where
  abbrev pub left : Option ℤ
  left = seconds_left (numbers_of l.stored).expiry clock

  pub shown-none : is_document l.stored ≡ false → Missing ≡ shown_by clock l
  unfolding shown_by
  shown-none e = rw e

  pub shown-past : is_document l.stored ≡ true → is_past left ≡ true → Expired (seconds_in left) ≡ shown_by clock l
  unfolding shown_by
  shown-past e p = rw (e, p)

  pub shown-live : is_document l.stored ≡ true → is_past left ≡ false → Live (numbers_of l.stored) left l.at l.len ≡ shown_by clock l
  unfolding shown_by
  shown-live e p = rw (e, p)

-- what a row with its value at a place shows
abbrev told : ℕ → Option Metadata → ℕ → ℕ → Document
told clock s at len =
    let left = seconds_left (numbers_of s).expiry clock in
    cond (is_document s) (cond (is_past left) (Expired (seconds_in left)) (Live (numbers_of s) left at len)) Missing

-- by what the table's rows have for the key
by-doc : (rows : List Row) (clock : ℕ) (key : Key) (o : Option Doc) → told clock (stored_of o) (value_place rows key 16) (length (doc_value o)) ≡ shown rows clock key o
by-doc rows clock key None = refl
by-doc rows clock key (Some d) = cases d.tomb (λ t. rw t) (λ t. rw t)

-- the later of the head's clock and the call's
pub later-at : (b : List ℕ) (clock : ℕ) (h : Head) (now : ℕ) → h ≡ head_of b → now ≡ later h.clock clock → now ≡ clock_at (table_of b) clock
unfolding table_of
later-at b clock h now e n = n ∙ ap (λ (x : Head). later x.clock clock) e

module _ (config : Config) (b : List ℕ) (clock : ℕ) where
  module _ (key : Key) where
    pub read-damaged : sound_by config b ≡ false → read_of config b clock key ≡ Damaged
    unfolding read_of
    read-damaged e = rw e

    pub read-sound : sound_by config b ≡ true → read_of config b clock key ≡ shown (table_of b).rows (clock_at (table_of b) clock) key (find_row (table_of b).rows key)
    unfolding read_of
    read-sound e = rw e

    pub read_found : (now : ℕ) (l : Lookup) (d : Document) → Bytes b → sound_by config b ≡ true → now ≡ clock_at (table_of b) clock → l ≡ lookup_of config false b key
        → d ≡ shown_by now l → d ≡ read_of config b clock key
    unfolding shown_by
    read_found now l d y s n e f =
        let at = clock_at (table_of b) clock in
        let g = finds-sound config b key false y s in
        let o = find_row (table_of b).rows key in
        f ∙ (λ i. shown_by (n i) (e i))
        ∙ (λ i. told at (g.stored i) (g.stands i) (g.size i))
        ∙ by-doc (table_of b).rows at key o ∙ sym (read-sound s)

  module _ (bound : ℕ) where
    pub purge-refused : sound_by config b ≡ false → (NotPurged ≡ purge_of config b clock bound) × (b ≡ purged_bytes config b clock bound)
    unfolding purge_of purged_bytes
    purge-refused e = (rw e, rw e)

    -- on a table that is not damaged, what a step answers and leaves is what a purge does
    pub purge-stepped : (n : ℕ) (s : List ℕ) → Bytes b → clock < 2 ^ 32 → sound_by config b ≡ true
        → n ≡ (purge_step config b clock bound).freed → s ≡ (purge_step config b clock bound).table
        → (Freed n ≡ purge_of config b clock bound) × (s ≡ purged_bytes config b clock bound)
    unfolding purge_step purge_of purged_bytes head_of
    purge-stepped n s y l e c w =
        let t = table_of b in
        let g = sound-good-by config b y e in
        let m = later-at b clock (head_of b) _ refl refl in
        let k : written b 4 (bytes_of 4 (later (num b 4 4) clock)) ≡ table_bytes (table_at t clock) = (λ i. written (sym g.0 i) 4 (bytes_of 4 (m i))) ∙ clock-put t clock in
        let q = purges-good config (table_at t clock) (clock_at t clock) bound (clock-good-by config t clock g.1 l) in (
          ap Freed (c ∙ (λ i. freed_rows (gone_doc (m i) bound) (k i)) ∙ q.count) ∙ rw e,
          w ∙ (λ i. purged_by config (gone_doc (m i) bound) (k i)) ∙ q.bytes ∙ rw e,
        )
