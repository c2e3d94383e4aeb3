-- The owner's calls on twin tables: a purge, a read, a table made active and one made anew.
use native.Mathlib.Omega.{arith}
use Prim.Native.Nat.{ℕ, zero, suc, ◌+◌, ◌-◌, ◌^◌, ◌<◌}
use mathlib.Core.Path.{◌≡◌, refl, sym, ap, ◌∙◌}
use mathlib.Core.Bool.{Bool, false, cond}
use mathlib.Core.List.{List, [], ◌∷◌, ◌++◌}
use Rattle.std.specs.Prelude.{Option, Some, None}
use lib.ListN.{length, replicate}
use Rattle.octets.specs.Parts.{part}
use Rattle.octets.proofs.Choices.{cases}
use Rattle.numbers.specs.Expiry.{seconds_left, is_past}
use Rattle.document.specs.Documents.{Key, Doc, doc_value}
use Rattle.document.specs.Stored.{gone_doc}
use Rattle.engine.specs.declared.Config.{Config}
use Rattle.engine.specs.declared.EngineKind.{EngineKind}
use Rattle.engine.specs.declared.EngineKind.TheVariants.{Plain, Ordered}
use Rattle.engine.specs.Alike.{Alike}
use Rattle.rows.specs.Row.{Row}
use Rattle.rows.specs.Table.{Table, table_at, clock_at, table_bytes, fresh}
use Rattle.rows.specs.Find.{find_row, free_rows, value_place}
use Rattle.plain.specs.Plain.{purge_rows}
use Rattle.plain.specs.Purge.{gone_count}
use Rattle.ordered.specs.Purge.{staying_rows, purge_ordered}
use Rattle.engines.specs.Engines.{purge_by, engine_of}
use Rattle.engines.specs.Claims.{GoodBy}
use Rattle.engines.proofs.EngineLaws.{engines-alike}
use Rattle.engines.proofs.Tables.{good-sound-by, purge-good-by}
use Rattle.table.proofs.Looking.{finds-good}
use Rattle.owning.specs.Owner.{Freed, make_ok, make_outcome, made, shown, read_of, purge_of, purged_table, purged_bytes, is_dead, activate_of, activated, activated_table, activated_bytes}
use Rattle.owning.proofs.Activating.{active-good, good-dead, good-active}
use Rattle.owner.proofs.Making.{accepted, refused, in-range}
use Rattle.owner.proofs.Reading.{read-sound}
use Rattle.promises.proofs.Steps.{purged-bytes}
use Rattle.agreement.specs.Calls.{placeless, bytes_shown}
use Rattle.agreement.proofs.Twins.{Twin, Twins, by-tables, length-alike, clock-alike, twin-at, fresh-twin}

-- ---- a purge frees as many rows as it counts, whichever engine keeps them
module _ (p : Doc → Bool) where
  plain-frees : (ws : List Row) → free_rows (purge_rows ws p) ≡ gone_count p ws + free_rows ws
  plain-frees [] = refl
  plain-frees (None ∷ ws) = omega (arith, plain-frees ws)
  plain-frees (Some e ∷ ws) = cases (p e.doc) (λ t. rw t (omega (arith, plain-frees ws))) (λ f. rw f (omega (arith, plain-frees ws)))

  all-free : (n : ℕ) → free_rows (replicate n None) ≡ n
  all-free zero = refl
  all-free (suc n) = ap suc (all-free n)

  free-after : (n : ℕ) (ws : List Row) → free_rows (staying_rows p ws ++ replicate n None) ≡ n
  free-after n [] = all-free n
  free-after n (None ∷ ws) = free-after n ws
  free-after n (Some e ∷ ws) = cases (p e.doc) (λ t. rw t (free-after n ws)) (λ f. rw f (free-after n ws))

  -- a row goes, is free or stays
  each_row : (ws : List Row) → gone_count p ws + free_rows ws + length (staying_rows p ws) ≡ length ws
  each_row [] = refl
  each_row (None ∷ ws) = omega (arith, each_row ws)
  each_row (Some e ∷ ws) = cases (p e.doc) (λ t. rw t (omega (arith, each_row ws))) (λ f. rw f (omega (arith, each_row ws)))

  ordered-frees : (ws : List Row) → free_rows (purge_ordered ws p) ≡ gone_count p ws + free_rows ws
  ordered-frees ws = free-after (length ws - length (staying_rows p ws)) ws ∙ omega (arith, each_row ws)

  frees : (k : EngineKind) (ws : List Row) → free_rows (purge_by k ws p) ≡ gone_count p ws + free_rows ws
  frees Plain ws = plain-frees ws
  frees Ordered ws = ordered-frees ws

  gone-alike : (config other : Config) (r s : List Row) → Alike (engine_of config) (engine_of other) r s → gone_count p r ≡ gone_count p s
  gone-alike config other r s a = omega (arith, frees config.engine r, frees other.engine s, (engines-alike config other).freed r s p a)

-- ---- what a read shows of a key's document, its place aside
module _ (now : ℕ) (key : Key) where
  placeless-alike : (rows others : List Row) (o : Option Doc) → placeless (shown rows now key o) ≡ placeless (shown others now key o)
  placeless-alike rows others None = refl
  placeless-alike rows others (Some d) =
      cases d.tomb
      (λ t. rw t)
      (λ f. cases (is_past (seconds_left d.numbers.expiry now)) (λ p. rw (f, p)) (λ p. rw (f, p)))

  -- the bytes of its value, where it is live
  abbrev value_shown : Option Doc → List ℕ
  value_shown None = []
  value_shown (Some d) = cond d.tomb [] (cond (is_past (seconds_left d.numbers.expiry now)) [] d.value)

  value-shown : (b : List ℕ) (rows : List Row) (o : Option Doc) → part b (value_place rows key 16) (length (doc_value o)) ≡ doc_value o
      → bytes_shown b (shown rows now key o) ≡ value_shown o
  value-shown b rows None e = refl
  value-shown b rows (Some d) e =
      cases d.tomb
      (λ t. rw t)
      (λ f. cases (is_past (seconds_left d.numbers.expiry now)) (λ p. rw (f, p)) (λ p. rw (f, p) e))

-- ---- on a good table's memory
module _ (config : Config) (t : Table) (g : GoodBy config t) (clock : ℕ) where
  abbrev b : List ℕ
  b = table_bytes t

  purge-good : (bound : ℕ) → purge_of config b clock bound ≡ Freed (gone_count (gone_doc (clock_at t clock) bound) t.rows)
  unfolding purge_of
  purge-good bound =
      let (sound, back) = good-sound-by config t g in
      rw sound (ap (λ (x : Table). Freed (gone_count (gone_doc (clock_at x clock) bound) x.rows)) back)

  module _ (key : Key) where
    read-good : read_of config b clock key ≡ shown t.rows (clock_at t clock) key (find_row t.rows key)
    read-good =
        let (sound, back) = good-sound-by config t g in
        read-sound config b clock key sound ∙ ap (λ (x : Table). shown x.rows (clock_at x clock) key (find_row x.rows key)) back

    bytes_good : bytes_shown b (read_of config b clock key) ≡ value_shown (clock_at t clock) key (find_row t.rows key)
    bytes_good =
        let f = finds-good config t key false g in
        let there : part b (value_place t.rows key 16) (length (doc_value (find_row t.rows key))) ≡ doc_value (find_row t.rows key) =
        (λ i. part b (sym f.stands i) (sym f.size i)) ∙ f.value in
        ap (bytes_shown b) read-good ∙ value-shown (clock_at t clock) key b t.rows (find_row t.rows key) there

-- ---- on twin tables
pub record ReadAlike (config other : Config) (b c : List ℕ) (clock : ℕ) (key : Key) : Type 0 where
  pub document : placeless (read_of config b clock key) ≡ placeless (read_of other c clock key)
  pub value : bytes_shown b (read_of config b clock key) ≡ bytes_shown c (read_of other c clock key)

pub record PurgedAlike (config other : Config) (b c : List ℕ) (clock bound : ℕ) : Type 0 where
  pub answer : purge_of config b clock bound ≡ purge_of other c clock bound
  pub tables : Twins config other (purged_bytes config b clock bound) (purged_bytes other c clock bound)

pub record ActivatedAlike (config other : Config) (b c : List ℕ) : Type 0 where
  pub answer : activate_of config b ≡ activate_of other c
  pub tables : Twins config other (activated_bytes config b) (activated_bytes other c)

pub record MadeAlike (config other : Config) (b c : List ℕ) (n state mode vbucket : ℕ) : Type 0 where
  pub answer : make_outcome (length b) n state mode ≡ make_outcome (length c) n state mode
  pub tables : Twins config other (made b n state mode vbucket) (made c n state mode vbucket)

module _ (config other : Config) (t u : Table) (w : Twin config other t u) where
  read-twins : (clock : ℕ) (key : Key) → ReadAlike config other (table_bytes t) (table_bytes u) clock key
  read-twins clock key =
      let now = clock-alike config other t u w clock in
      record {
        document =
            ap placeless (read-good config t w.good clock key)
            ∙ placeless-alike (clock_at t clock) key t.rows u.rows (find_row t.rows key)
            ∙ (λ i. placeless (shown u.rows (now i) key (w.alike.find key i)))
            ∙ sym (ap placeless (read-good other u w.other-good clock key));
        value =
            bytes_good config t w.good clock key
            ∙ (λ i. value_shown (now i) key (w.alike.find key i))
            ∙ sym (bytes_good other u w.other-good clock key);
      }

  purge-twins : (clock bound : ℕ) → clock < 2 ^ 32 → PurgedAlike config other (table_bytes t) (table_bytes u) clock bound
  purge-twins clock bound c =
      let now = clock-alike config other t u w clock in
      let p = gone_doc (clock_at t clock) bound in
      let at = twin-at config other t u w clock c in
      record {
        answer =
            purge-good config t w.good clock bound
            ∙ ap Freed (gone-alike p config other t.rows u.rows w.alike)
            ∙ (λ i. Freed (gone_count (gone_doc (now i) bound) u.rows))
            ∙ sym (purge-good other u w.other-good clock bound);
        tables = record {
          table = purged_table config (table_at t clock) p;
          other-table = purged_table other (table_at u clock) p;
          bytes = purged-bytes config t w.good clock bound c;
          other-bytes =
              purged-bytes other u w.other-good clock bound c ∙ sym (λ i. table_bytes (purged_table other (table_at u clock) (gone_doc (now i) bound)));
          twin = record {
            good = purge-good-by config (table_at t clock) p at.good;
            other-good = purge-good-by other (table_at u clock) p at.other-good;
            rule = w.rule;
            head = at.head;
            alike = (engines-alike config other).purge t.rows u.rows p w.alike;
          };
        };
      }

  -- both are dead, or neither
  activate-twins : ActivatedAlike config other (table_bytes t) (table_bytes u)
  activate-twins =
      let same : is_dead u.head ≡ is_dead t.head = sym (ap is_dead w.head) in
      cases (is_dead t.head)
      (λ d.
      let (e, f) = good-dead config t w.good d in
      let (e', f') = good-dead other u w.other-good (same ∙ d) in
      record { answer = e ∙ sym e'; tables = record { table = t; other-table = u; bytes = f; other-bytes = f'; twin = w } })
      (λ d.
      let (e, f) = good-active config t w.good d in
      let (e', f') = good-active other u w.other-good (same ∙ d) in
      record {
        answer = e ∙ sym e';
        tables = record {
          table = activated_table t;
          other-table = activated_table u;
          bytes = f;
          other-bytes = f';
          twin = record {
            good = active-good config t w.good;
            other-good = active-good other u w.other-good;
            rule = w.rule;
            head = ap activated w.head;
            alike = w.alike;
          };
        };
      })

  module _ (n state mode vbucket : ℕ) where
    -- the other memory is as large
    as-large : make_ok (length (table_bytes u)) n state mode ≡ make_ok (length (table_bytes t)) n state mode
    as-large = sym (ap (λ (l : ℕ). make_ok l n state mode) (length-alike config other t u w))

    made-tables : vbucket < 65536 → Twins config other (made (table_bytes t) n state mode vbucket) (made (table_bytes u) n state mode vbucket)
    made-tables v =
        cases (make_ok (length (table_bytes t)) n state mode)
        (λ y.
        let r = in-range (length (table_bytes t)) n state mode y in
        record {
          table = fresh n state mode vbucket;
          other-table = fresh n state mode vbucket;
          bytes = sym (accepted (table_bytes t) n state mode vbucket y).1;
          other-bytes = sym (accepted (table_bytes u) n state mode vbucket (as-large ∙ y)).1;
          twin = fresh-twin config other w.rule n state mode vbucket r.least r.most r.state r.mode v;
        })
        (λ f. record {
          table = t;
          other-table = u;
          bytes = sym (refused (table_bytes t) n state mode vbucket f).1;
          other-bytes = sym (refused (table_bytes u) n state mode vbucket (as-large ∙ f)).1;
          twin = w;
        })

    made-twins : vbucket < 65536 → MadeAlike config other (table_bytes t) (table_bytes u) n state mode vbucket
    made-twins v = record { answer = ap (λ (l : ℕ). make_outcome l n state mode) (length-alike config other t u w); tables = made-tables v }

-- ---- on their memory
module _ (config other : Config) (b c : List ℕ) (w : Twins config other b c) where
  pub read_alike : (clock : ℕ) (key : Key) → ReadAlike config other b c clock key
  read_alike clock key = by-tables config other b c w (λ x y. ReadAlike config other x y clock key) (λ t u v. read-twins config other t u v clock key)

  pub purge-alike : (clock bound : ℕ) → clock < 2 ^ 32 → PurgedAlike config other b c clock bound
  purge-alike clock bound l = by-tables config other b c w (λ x y. PurgedAlike config other x y clock bound) (λ t u v. purge-twins config other t u v clock bound l)

  pub activate-alike : ActivatedAlike config other b c
  activate-alike = by-tables config other b c w (ActivatedAlike config other) (activate-twins config other)

  pub made_alike : (n state mode vbucket : ℕ) → vbucket < 65536 → MadeAlike config other b c n state mode vbucket
  made_alike n state mode vbucket l =
      by-tables config other b c w (λ x y. MadeAlike config other x y n state mode vbucket) (λ t u v. made-twins config other t u v n state mode vbucket l)
