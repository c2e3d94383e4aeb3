-- What the owner's read tells of the time that is left, in 01's numbers.
use Prim.Native.Nat.{ℕ, ◌≤◌}
use mathlib.Core.Path.{◌≡◌, refl, ap, ◌∙◌}
use mathlib.Core.Bool.{true, false, not}
use mathlib.Core.List.{List}
use Rattle.std.specs.Prelude.{Option, Some, None, ℤ}
use lib.ListN.{length}
use lib.IntN.{pos, ◌-ℤ◌}
use borrow.Author.Tests.{ne_eqb, not-true, not-false}
use Rattle.engine.specs.declared.Config.{Config}
use Rattle.octets.proofs.Choices.{cases, both}
use Rattle.numbers.specs.Expiry.{seconds_left, is_past, seconds_in, expired}
use Rattle.document.specs.Documents.{Key, Doc}
use Rattle.document.specs.Stored.{stored_of, live}
use Rattle.rows.specs.Row.{Row}
use Rattle.rows.specs.Find.{value_place}
use Rattle.rows.specs.Table.{table_of, clock_at}
use Rattle.engines.specs.Damage.{sound_by}
use Rattle.owning.specs.Owner.{Expired as Past, Live as Shown, shown, read_of, read_status}
use Rattle.promises.specs.Merge.{doc_at}
use Rattle.promises.specs.Kept.{later_at}
use Rattle.promises.specs.Expiry.{Expired, Live, NotLive, ShowsLeft, TellsLeft, ReadTells}
use Rattle.promises.proofs.Kept.{later-clock, at-later}
use Rattle.promises.proofs.Liveness.{is-expired, dead-at, alive-at}

-- ---- the time that is left
ends : (expiry clock : ℕ) → (expiry ≡ 0 → ⊥) → seconds_left expiry clock ≡ Some (pos expiry -ℤ pos clock)
unfolding seconds_left
ends expiry clock z = rw (ne_eqb expiry 0 z)

never_ends : (expiry clock : ℕ) → expiry ≡ 0 → seconds_left expiry clock ≡ None
unfolding seconds_left
never_ends expiry clock z = rw z

-- what a read shows of a row that isn't live
pub shown-over : (rows : List Row) (clock : ℕ) (k : Key) (x : Option Doc) → live (stored_of x) clock ≡ false → read_status (shown rows clock k x) ≡ 0x01
unfolding live expired
shown-over rows clock k None e = refl
shown-over rows clock k (Some d) e =
    cases d.tomb (λ t. rw t)
    (λ t. let p : is_past (seconds_left d.numbers.expiry clock) ≡ true = not-false _ (rw t at e) in rw (t, p))

module _ (config : Config) (b : List ℕ) (clock : ℕ) (k : Key) (undamaged : sound_by config b ≡ true) where
  abbrev rows : List Row
  rows = (table_of b).rows

  -- the later clock, as the table's head has it
  abbrev now : ℕ
  now = clock_at (table_of b) clock

  shows : read_of config b clock k ≡ shown rows now k (doc_at b k)
  unfolding read_of
  shows = rw undamaged

  pub dead-read : NotLive (later_at b clock) (doc_at b k) → read_status (read_of config b clock k) ≡ 0x01
  dead-read n = ap read_status shows ∙ shown-over rows now k (doc_at b k) (dead-at b clock (doc_at b k) n)

  module _ (d : Doc) (at : doc_at b k ≡ Some d) where
    abbrev left : Option ℤ
    left = seconds_left d.numbers.expiry now

    shows-row : read_of config b clock k ≡ shown rows now k (Some d)
    shows-row = shows ∙ ap (shown rows now k) at

    live-left : Live (later_at b clock) d → ShowsLeft config b clock k d left
    unfolding live expired
    live-left a =
        let (t, p) = both (not d.tomb) (not (is_past left)) (alive-at b clock d a) in
        (value_place rows k 16, length d.value, shows-row ∙ rw (not-true d.tomb t, not-true (is_past left) p))

    as-left : (x : Option ℤ) → left ≡ x → ShowsLeft config b clock k d left → ShowsLeft config b clock k d x
    as-left x e (at, len, s) = (at, len, s ∙ ap (λ (y : Option ℤ). Shown d.numbers y at len) e)

    seconds : (d.numbers.expiry ≡ 0 → ⊥) → left ≡ Some (pos d.numbers.expiry -ℤ pos (later_at b clock))
    seconds z = ends d.numbers.expiry now z ∙ ap (λ (c : ℕ). Some (pos d.numbers.expiry -ℤ pos c)) (later-clock b clock)

    past-left : Expired (later_at b clock) d → is_past left ≡ true
    unfolding expired
    past-left e = is-expired d.numbers.expiry now e.ends (at-later (λ (c : ℕ). d.numbers.expiry ≤ c) b clock e.past)

    shown-past : Expired (later_at b clock) d → shown rows now k (Some d) ≡ Past (seconds_in left)
    shown-past e = rw (e.document, past-left e)

    tells-left : TellsLeft config b clock k d
    tells-left = record {
      never = λ a z. as-left None (never_ends d.numbers.expiry now z) (live-left a);
      left = λ a z. as-left _ (seconds z) (live-left a);
      past = λ e. shows-row ∙ shown-past e ∙ ap (λ (x : Option ℤ). Past (seconds_in x)) (seconds e.ends);
      tombstone = λ t. shows-row ∙ rw t;
    }

pub read-tells : (config : Config) → ReadTells config
read-tells config b clock k s = (λ n. shows config b clock k s ∙ ap (shown (table_of b).rows (clock_at (table_of b) clock) k) n, λ d at. tells-left config b clock k s d at)
