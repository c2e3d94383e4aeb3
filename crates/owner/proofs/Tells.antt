-- The claims of specs/Claims.antt.
use native.Mathlib.Omega.{arith}
use mathlib.Core.Path.{◌≡◌, refl, sym, ap, ◌∙◌}
use mathlib.Core.Bool.{Bool, true, false, cond, not, false≢true}
use mathlib.Core.List.{List}
use Rattle.std.specs.Prelude.{Option, Some, None, ℤ}
use Prim.Native.Nat.{ℕ}
use lib.ListN.{length}
use lib.Dec.{eqb}
use lib.IntN.{pos, ◌-ℤ◌}
use lib.Signed.{le_z}
use borrow.Author.Tests.{not-true, not-false}
use Rattle.octets.specs.Parts.{part}
use Rattle.octets.proofs.Choices.{cases, both}
use Rattle.octets.proofs.Options.{options, none-some}
use Rattle.numbers.specs.Expiry.{seconds_left, is_past, seconds_in, expired}
use Rattle.document.specs.Documents.{Key, Doc, doc_value}
use Rattle.document.specs.Stored.{metadata_of, stored_of, live, is_document, gone_doc}
use Rattle.rows.specs.Row.{Row}
use Rattle.rows.specs.Table.{table_of, table_at, clock_at, fresh}
use Rattle.rows.specs.Find.{find_row, value_place}
use Rattle.plain.proofs.TableLaws.{no_key}
use Rattle.engines.specs.Damage.{sound_by}
use Rattle.engines.proofs.Tables.{sound-good-by, good-sound-by, purge-good-by, fresh-good-by, clock-good-by}
use Rattle.table.proofs.Looking.{finds-sound}
use Rattle.owning.specs.Owner.{Missing, Live, shown, shown_left, purged_bytes, make_ok}
use Rattle.owner.specs.Claims.{ReadShows, ReadMisses, ReadExpired, NoSuchKey, PurgeSound, MakeSound}
use Rattle.owner.proofs.Making.{accepted, refused, in-range}
use Rattle.owner.proofs.Reading.{read-sound}

abbrev kept : ℕ → Option Doc → Option Doc
kept clock o = cond (live (stored_of o) clock) o None

kept-live : (clock : ℕ) (d : Doc) → live (Some (metadata_of d)) clock ≡ true → kept clock (Some d) ≡ Some d
kept-live clock d t = ap (λ (c : Bool). cond c (Some d) None) t

kept-over : (clock : ℕ) (d : Doc) → live (Some (metadata_of d)) clock ≡ false → kept clock (Some d) ≡ None
kept-over clock d t = ap (λ (c : Bool). cond c (Some d) None) t

kept-none : (clock : ℕ) → kept clock None ≡ None
unfolding live
kept-none clock = refl

-- ---- the time that is left
-- a live document isn't past, and one that isn't live is
shown-live : (rows : List Row) (clock : ℕ) (key : Key) (d : Doc) → live (Some (metadata_of d)) clock ≡ true
    → shown rows clock key (Some d) ≡ Live d.numbers (seconds_left d.numbers.expiry clock) (value_place rows key 16) (length d.value)
unfolding live expired
shown-live rows clock key d t =
    let (tomb, past) = both (not d.tomb) (not (is_past (seconds_left d.numbers.expiry clock))) t in
    rw (not-true d.tomb tomb, not-true (is_past (seconds_left d.numbers.expiry clock)) past)

past-over : (clock : ℕ) (d : Doc) → d.tomb ≡ false → live (stored_of (Some d)) clock ≡ false → is_past (seconds_left d.numbers.expiry clock) ≡ true
unfolding live expired
past-over clock d e f = not-false (is_past (seconds_left d.numbers.expiry clock)) (rw e at f)

past-difference : (expiry clock : ℕ) → is_past (seconds_left expiry clock) ≡ true → seconds_in (seconds_left expiry clock) ≡ pos expiry -ℤ pos clock
unfolding seconds_left
past-difference expiry clock p =
    cases (eqb expiry 0) (λ z. absurd (false≢true (rw z at p))) (λ z. rw z)

past-least : (left : Option ℤ) → is_past left ≡ true → le_z (seconds_in left) (pos 0) ≡ true
past-least None p = absurd (false≢true p)
past-least (Some n) p = p

pub read-shows : ReadShows
read-shows config b call key d y s e =
    let clock = clock_at (table_of b) call in
    let rows = (table_of b).rows in
    let f = finds-sound config b key false y s in
    options (find_row rows key)
    (λ n. none-some d (sym (ap (kept clock) n ∙ kept-none clock) ∙ e))
    (λ x o. cases (live (Some (metadata_of x)) clock)
    (λ t.
    let z : Some x ≡ Some d = sym (ap (kept clock) o ∙ kept-live clock x t) ∙ e in
    let q : x ≡ d = cc in
    let l = value_place rows key 16 in
    let at = f.stands in
    let size = f.size ∙ ap (λ (w : Option Doc). length (doc_value w)) o in
    record {
      at = l;
      len = length x.value;
      answer =
          read-sound config b call key s ∙ ap (shown rows clock key) o ∙ shown-live rows clock key x t
          ∙ ap (λ (w : Doc). Live w.numbers (seconds_left w.numbers.expiry clock) l (length x.value)) q;
      inside = omega (arith, f.inside, at, size);
      value = (λ i. part b (sym at i) (sym size i)) ∙ f.value ∙ ap doc_value o ∙ ap (λ (w : Doc). w.value) q;
    })
    (λ t. none-some d (sym (ap (kept clock) o ∙ kept-over clock x t) ∙ e)))

pub read-misses : ReadMisses
read-misses config b call key y s e =
    let clock = clock_at (table_of b) call in
    let rows = (table_of b).rows in
    read-sound config b call key s
    ∙ options (find_row rows key)
    (λ n. ap (shown rows clock key) n)
    (λ x o.
    let tomb = not-false x.tomb (sym (ap (λ (w : Option Doc). is_document (stored_of w)) o) ∙ e) in
    ap (shown rows clock key) o ∙ ap (λ (c : Bool). cond c Missing (shown_left rows key x (seconds_left x.numbers.expiry clock))) tomb)

pub read-expired : ReadExpired
read-expired config b call key d y s o document over =
    let clock = clock_at (table_of b) call in
    let rows = (table_of b).rows in
    let left = seconds_left d.numbers.expiry clock in
    let past = past-over clock d document over in
    record {
      seconds = seconds_in left;
      answer = read-sound config b call key s ∙ ap (shown rows clock key) o ∙ rw (document, past);
      difference = past-difference d.numbers.expiry clock past;
      past = past-least left past;
    }

pub no-such-key : NoSuchKey
no-such-key config b clock key y s h =
    let g = (sound-good-by config b y s).1 in
    read-misses config b clock key y s (ap (λ (o : Option Doc). is_document (stored_of o)) (no_key (table_of b).head.mark.0 (table_of b).rows key g.good.rows h))

pub purge-sound : PurgeSound
unfolding purged_bytes
purge-sound config b clock bound y l s =
    let t = table_of b in
    let g = clock-good-by config t clock (sound-good-by config b y s).1 l in
    rw s (good-sound-by config _ (purge-good-by config (table_at t clock) (gone_doc (clock_at t clock) bound) g)).0

pub make-sound : MakeSound
make-sound config b n state mode vbucket v e =
    cases (make_ok (length b) n state mode)
    (λ t.
    let r = in-range (length b) n state mode t in
    ap (sound_by config) (sym (accepted b n state mode vbucket t).1)
    ∙ (good-sound-by config (fresh n state mode vbucket) (fresh-good-by config n state mode vbucket r.least r.most r.state r.mode v)).0)
    (λ f. absurd (omega (arith, (refused b n state mode vbucket f).0)))
