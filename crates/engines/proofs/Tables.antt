-- Good tables whichever engine keeps their rows: what the plain engine's laws say of all but the order, and the order.
use Prim.Native.Nat.{ℕ, ◌+◌, ◌-◌}
use native.Mathlib.Omega.{arith}
use mathlib.Core.Path.{◌≡◌, sym, subst, ◌∙◌}
use mathlib.Core.Bool.{Bool, true, ◌&&◌}
use mathlib.Core.List.{List, [], ◌∷◌, ◌++◌}
use Rattle.std.specs.Prelude.{Some, None}
use lib.ListN.{length, drop, replicate, length-append}
use Rattle.octets.specs.BigEndian.{bytes_of}
use Rattle.octets.specs.Parts.{pasted}
use Rattle.octets.proofs.Choices.{cases, both}
use Rattle.octets.proofs.Lists.{written-fits, pasted-over}
use Rattle.keys.specs.Keys.{side_of}
use Rattle.keys.proofs.KeyLaws.{sides}
use Rattle.document.specs.Documents.{Key, Doc, Entry}
use Rattle.engine.specs.declared.EngineKind.{EngineKind}
use Rattle.engine.specs.declared.EngineKind.TheVariants.{Plain, Ordered}
use Rattle.engine.specs.Engine.{Room}
use Rattle.rows.specs.Row.{Row}
use Rattle.rows.specs.Table.{Table, clock_at, head_of, head_bytes, chunks, row_count, rows_of, rows_bytes, table_of, table_bytes}
use Rattle.rows.specs.RowRules.{size_ok, head_ok, all_sound}
use Rattle.rows.specs.Good.{EntryGood, AllGood}
use Rattle.rows.proofs.Heads.{head-length}
use Rattle.plain.specs.Damage.{distinct, sound}
use Rattle.plain.specs.Claims.{Good}
use Rattle.plain.proofs.TableLaws.{distinct-keys, keys-distinct, sound-good, good-sound}
use Rattle.plain.proofs.ChangeLaws.{raise, free-good, put-good, purge-good, fresh-good}
use Rattle.ordered.specs.Order.{ordered}
use Rattle.ordered.specs.Insert.{one_free_less, insert_row}
use Rattle.ordered.specs.Purge.{staying_rows, purge_ordered}
use Rattle.ordered.specs.Damage.{sound_ordered}
use Rattle.ordered.proofs.OrderLaws.{ordered-distinct}
use Rattle.ordered.proofs.OrderedLaws.{ordered-laws}
use Rattle.engines.specs.Engines.{rows_kept, put_by, purge_by, engine_in}
use Rattle.engines.specs.Damage.{sound_in, sound_by}
use Rattle.engines.specs.Claims.{SoundPlain, SoundGoodBy, GoodSoundBy, PutGoodBy, PurgeGoodBy, FreshGoodBy, HeadGoodBy, ClockGoodBy, StateGoodBy, HeadPut, ClockPut, StatePut}
use Rattle.engines.proofs.EngineLaws.{engines-laws, fresh_kept}

-- ---- damage: in order, and sound by 01's rule
module _ (b : List ℕ) where
  abbrev rows : List Row
  rows = rows_of (row_count b) (drop 16 b)

  abbrev fields : Bool
  fields = all_sound (head_of b).mark.0 (chunks (row_count b) (drop 16 b))

  -- a last test put in another's place
  others : (x y : Bool) → (x ≡ true → y ≡ true) → (size_ok (length b) (row_count b) && (head_ok (head_of b) && (fields && x))) ≡ true
      → (x ≡ true) × ((size_ok (length b) (row_count b) && (head_ok (head_of b) && (fields && y))) ≡ true)
  others x y f e =
      let p = both (size_ok (length b) (row_count b)) (head_ok (head_of b) && (fields && x)) e in
      let q = both (head_ok (head_of b)) (fields && x) p.1 in
      let r = both fields x q.1 in
      (r.1, λ i. p.0 i && (q.0 i && (r.0 i && f r.1 i)))

  ordered-sound : sound_ordered b ≡ true → (ordered rows ≡ true) × (sound b ≡ true)
  unfolding sound_ordered sound
  ordered-sound e = others (ordered rows) (distinct rows) (λ o. keys-distinct rows (ordered-distinct rows o)) e

  sound-ordered : sound b ≡ true → ordered rows ≡ true → sound_ordered b ≡ true
  unfolding sound_ordered sound
  sound-ordered e o = (others (distinct rows) (ordered rows) (λ _. o) e).1

  sound-in : (k : EngineKind) → sound_in k b ≡ true → sound b ≡ true
  sound-in Plain e = e
  sound-in Ordered e = (ordered-sound e).1

  kept_in : (k : EngineKind) → sound_in k b ≡ true → rows_kept k (table_of b).rows
  unfolding sound table_of
  kept_in Plain e =
      distinct-keys rows (both fields (distinct rows) (both (head_ok (head_of b)) (fields && distinct rows)
      (both (size_ok (length b) (row_count b)) (head_ok (head_of b) && (fields && distinct rows)) e).1).1).1
  kept_in Ordered e = (ordered-sound e).0

  in-sound : (k : EngineKind) → sound b ≡ true → rows_kept k (table_of b).rows → sound_in k b ≡ true
  unfolding table_of
  in-sound Plain e g = e
  in-sound Ordered e g = sound-ordered e g

pub sound-plain : SoundPlain
unfolding sound_by
sound-plain config b e = sound-in b config.engine e

pub sound-good-by : SoundGoodBy
unfolding sound_by
sound-good-by config b y e =
    let g = sound-good b y (sound-in b config.engine e) in
    (g.0, record { good = g.1; kept = kept_in b config.engine e })

pub good-sound-by : GoodSoundBy
unfolding sound_by
good-sound-by config t g =
    let h = good-sound t g.good in
    let kept = subst (λ (x : Table). rows_kept config.engine x.rows) (sym h.1) g.kept in
    (in-sound (table_bytes t) config.engine h.0 kept, h.1)

-- ---- the rules of a row, after an insertion and a purge
module _ (mark : ℕ) where
  good-less : (ws : List Row) → AllGood mark ws → AllGood mark (one_free_less ws)
  good-less [] g = tt
  good-less (None ∷ ws) g = g
  good-less (Some x ∷ ws) g = (g.0, good-less ws g.1)

  good-insert : (e : Entry) → EntryGood mark e → (ws : List Row) → AllGood mark ws → AllGood mark (insert_row ws e.key e.doc)
  good-insert e k [] g = tt
  good-insert e k (None ∷ ws) g = (k, g)
  good-insert e k (Some x ∷ ws) g =
      sides (side_of x.key e.key)
      (λ l. rw l (g.0, good-insert e k ws g.1))
      (λ q. rw q (k, g.1))
      (λ q. rw q (k, (g.0, good-less ws g.1)))

  good-stay : (p : Doc → Bool) (n : ℕ) (ws : List Row) → AllGood mark ws → AllGood mark (staying_rows p ws ++ replicate n None)
  good-stay p n [] g = free-good mark n
  good-stay p n (None ∷ ws) g = good-stay p n ws g
  good-stay p n (Some x ∷ ws) g = cases (p x.doc) (λ t. rw t (good-stay p n ws g.1)) (λ f. rw f (g.0, good-stay p n ws g.1))

-- other rows under the same head
rows-changed : (t : Table) (ws : List Row) → Good t → length ws ≡ length t.rows → AllGood t.head.mark.0 ws → ordered ws ≡ true
    → Good (record { head = t.head; rows = ws })
rows-changed t ws g n a o = record {
  least = rw n g.least;
  most = rw n g.most;
  state = g.state;
  mode = g.mode;
  vbucket = g.vbucket;
  clock = g.clock;
  mark = g.mark;
  rows = a;
  keys = ordered-distinct ws o;
}

module _ (t : Table) (key : Key) (d : Doc) (e : EntryGood t.head.mark.0 (record { key = key; doc = d })) where
  put_in : (k : EngineKind) → Good t → rows_kept k t.rows → Room (engine_in k) t.rows key
      → Good (record { head = t.head; rows = put_by k t.rows key d })
  put_in Plain g o room = put-good t key d g e room
  put_in Ordered g o room =
      rows-changed t (insert_row t.rows key d) g (ordered-laws.size-put t.rows key d o room)
      (good-insert t.head.mark.0 (record { key = key; doc = d }) e t.rows g.rows) (ordered-laws.good-put t.rows key d o room)

pub put-good-by : PutGoodBy
put-good-by config t key d g e room = record {
  good = put_in t key d e config.engine g.good g.kept room;
  kept = (engines-laws config).good-put t.rows key d g.kept room;
}

purge-in : (k : EngineKind) (t : Table) (p : Doc → Bool) → Good t → rows_kept k t.rows → Good (record { head = t.head; rows = purge_by k t.rows p })
purge-in Plain t p g o = purge-good t p g
purge-in Ordered t p g o =
    rows-changed t (purge_ordered t.rows p) g (ordered-laws.size-purge t.rows p o)
    (good-stay t.head.mark.0 p (length t.rows - length (staying_rows p t.rows)) t.rows g.rows) (ordered-laws.good-purge t.rows p o)

pub purge-good-by : PurgeGoodBy
purge-good-by config t p g = record {
  good = purge-in config.engine t p g.good g.kept;
  kept = (engines-laws config).good-purge t.rows p g.kept;
}

pub fresh-good-by : FreshGoodBy
fresh-good-by config n state mode vbucket l m s k v = record {
  good = fresh-good n state mode vbucket l m s k v;
  kept = fresh_kept config.engine n state mode vbucket;
}

-- ---- the head
pub head-good-by : HeadGoodBy
head-good-by config t m g l s =
    let h = g.good in
    record {
      good = record {
        least = h.least;
        most = h.most;
        state = h.state;
        mode = h.mode;
        vbucket = h.vbucket;
        clock = h.clock;
        mark = s;
        rows = raise t.head.mark.0 m t.rows l h.rows;
        keys = h.keys;
      };
      kept = g.kept;
    }

pub clock-good-by : ClockGoodBy
clock-good-by config t clock g s =
    let h = g.good in
    record {
      good = record {
        least = h.least;
        most = h.most;
        state = h.state;
        mode = h.mode;
        vbucket = h.vbucket;
        clock = omega (arith, h.clock, s);
        mark = h.mark;
        rows = h.rows;
        keys = h.keys;
      };
      kept = g.kept;
    }

pub state-good-by : StateGoodBy
state-good-by config t state g s =
    let h = g.good in
    record {
      good = record {
        least = h.least;
        most = h.most;
        state = s;
        mode = h.mode;
        vbucket = h.vbucket;
        clock = h.clock;
        mark = h.mark;
        rows = h.rows;
        keys = h.keys;
      };
      kept = g.kept;
    }

pub head-put : HeadPut
unfolding table_bytes
head-put t h =
    let l : length (head_bytes t.head) ≡ length (head_bytes h) = head-length t.head ∙ sym (head-length h) in
    let n : length (table_bytes t) ≡ length (head_bytes t.head) + length (rows_bytes t.rows) = length-append (head_bytes t.head) (rows_bytes t.rows) in
    written-fits (table_bytes t) 0 (head_bytes h) (omega arith)
    ∙ pasted-over (head_bytes t.head) (rows_bytes t.rows) (head_bytes h) l

pub clock-put : ClockPut
unfolding table_bytes head_bytes bytes_of pasted
clock-put t clock =
    let n : length (table_bytes t) ≡ length (head_bytes t.head) + length (rows_bytes t.rows) = length-append (head_bytes t.head) (rows_bytes t.rows) in
    written-fits (table_bytes t) 4 (bytes_of 4 (clock_at t clock)) (omega (arith, n, head-length t.head))

pub state-put : StatePut
unfolding table_bytes head_bytes bytes_of pasted
state-put t state =
    let n : length (table_bytes t) ≡ length (head_bytes t.head) + length (rows_bytes t.rows) = length-append (head_bytes t.head) (rows_bytes t.rows) in
    written-fits (table_bytes t) 0 (bytes_of 1 state) (omega (arith, n, head-length t.head))
