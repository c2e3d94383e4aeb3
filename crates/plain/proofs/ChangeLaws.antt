-- What storing, purging and making do to a table, and that each leaves a good one.
use native.Mathlib.Omega.{arith}
use mathlib.Core.Path.{◌≡◌, refl, sym, ap, ◌∙◌}
use mathlib.Core.Bool.{Bool}
use mathlib.Core.List.{List, [], ◌∷◌, ◌++◌}
use Rattle.std.specs.Prelude.{Some, None}
use Prim.Native.Nat.{ℕ, zero, suc, ◌+◌, ◌*◌, ◌≤◌, ◌<◌}
use lib.ListN.{length, set, replicate, length-set, length-replicate, replicate-append-replicate}
use Rattle.octets.specs.Parts.{pasted}
use Rattle.octets.proofs.Choices.{cases}
use Rattle.octets.proofs.Lists.{pasted-skip, pasted-over}
use Rattle.document.specs.Documents.{Key, Doc, Entry}
use Rattle.engine.specs.Engine.{Room}
use Rattle.rows.specs.Row.{Row, row_bytes}
use Rattle.rows.specs.Table.{Table, head_bytes, rows_bytes, table_bytes, with_row, fresh}
use Rattle.plain.specs.Plain.{put_row, purge_rows, Distinct, plain}
use Rattle.plain.specs.Claims.{Good, PurgeGood, FreshGood}
use Rattle.rows.specs.Good.{EntryGood, AllGood}
use Rattle.plain.proofs.PlainLaws.{plain-laws, length-purge}
use Rattle.plain.proofs.Places.{at_place, place-room}
use Rattle.rows.proofs.RowLaws.{RowGood, row-length}
use Rattle.rows.proofs.Heads.{head-length}
use Rattle.plain.proofs.TableLaws.{good-first, good_more}

-- a higher mark keeps rows good
entry-raise : (m mark : ℕ) (e : Entry) → m ≤ mark → EntryGood m e → EntryGood mark e
entry-raise m mark e h g = record {
  key-least = g.key-least;
  key-most = g.key-most;
  value-most = g.value-most;
  bare = g.bare;
  flags = g.flags;
  expiry = g.expiry;
  revision = g.revision;
  cas-least = g.cas-least;
  cas-most = omega (arith, g.cas-most);
}

pub raise : (m mark : ℕ) (ws : List Row) → m ≤ mark → AllGood m ws → AllGood mark ws
raise m mark [] h g = tt
raise m mark (None ∷ ws) h g = raise m mark ws h g
raise m mark (Some e ∷ ws) h g = (entry-raise m mark e h g.0, raise m mark ws h g.1)

-- a row put at a place, in the rows and in their bytes
module _ (mark : ℕ) (w : Row) (r : RowGood mark w) where
  good-set : (ws : List Row) (i : ℕ) → AllGood mark ws → AllGood mark (set ws i w)
  good-set [] i g = tt
  good-set (v ∷ ws) zero g = good_more mark w ws r (good-first mark v ws g).1
  good-set (v ∷ ws) (suc i) g = let h = good-first mark v ws g in good_more mark v (set ws i w) h.0 (good-set ws i h.1)

  rows-put : (ws : List Row) (i : ℕ) → AllGood mark ws → i < length ws → pasted (rows_bytes ws) (i * 1312) (row_bytes w) ≡ rows_bytes (set ws i w)
  rows-put [] i g h = absurd (omega arith)
  rows-put (v ∷ ws) zero g h = pasted-over (row_bytes v) (rows_bytes ws) (row_bytes w) (row-length mark v (good-first mark v ws g).0 ∙ sym (row-length mark w r))
  rows-put (v ∷ ws) (suc i) g h =
      let e : suc i * 1312 ≡ 1312 + i * 1312 = omega arith in
      let q = good-first mark v ws g in
      rw e
      (pasted-skip (row_bytes v) (rows_bytes ws) 1312 (i * 1312) (row_bytes w) (row-length mark v q.0)
      ∙ ap (λ (t : List ℕ). row_bytes v ++ t) (rows-put ws i q.1 (omega arith)))

module _ (t : Table) where
  pub row_put : (mark i : ℕ) (w : Row) → RowGood mark w → AllGood mark t.rows → i < length t.rows → pasted (table_bytes t) (16 + i * 1312) (row_bytes w) ≡ table_bytes (with_row t i w)
  unfolding table_bytes
  row_put mark i w r g h =
      pasted-skip (head_bytes t.head) (rows_bytes t.rows) 16 (i * 1312) (row_bytes w) (head-length t.head)
      ∙ ap (λ (l : List ℕ). head_bytes t.head ++ l) (rows-put mark w r t.rows i g h)

-- a document put where there is room keeps a table good
pub put-good : (t : Table) (key : Key) (d : Doc) → Good t → EntryGood t.head.mark.0 (record { key = key; doc = d }) → Room plain t.rows key
    → Good (record { head = t.head; rows = put_row t.rows key d })
put-good t key d g k room =
    let p = place-room key t.rows room in
    let row : put_row t.rows key d ≡ set t.rows p.0 (Some (record { key = key; doc = d })) = (at_place key t.rows p.0 p.1).put d in
    record {
      least = rw (row, length-set) g.least;
      most = rw (row, length-set) g.most;
      state = g.state;
      mode = g.mode;
      vbucket = g.vbucket;
      clock = g.clock;
      mark = g.mark;
      rows = rw row (good-set t.head.mark.0 (Some (record { key = key; doc = d })) k t.rows p.0 g.rows);
      keys = plain-laws.good-put t.rows key d g.keys room;
    }

module _ (p : Doc → Bool) where
  rows-purge : (mark : ℕ) (ws : List Row) → AllGood mark ws → AllGood mark (purge_rows ws p)
  rows-purge mark [] g = tt
  rows-purge mark (None ∷ ws) g = rows-purge mark ws g
  rows-purge mark (Some x ∷ ws) g = cases (p x.doc) (λ e. rw e (rows-purge mark ws g.1)) (λ e. rw e (g.0, rows-purge mark ws g.1))

pub purge-good : PurgeGood
purge-good t p g = record {
  least = rw (length-purge p t.rows) g.least;
  most = rw (length-purge p t.rows) g.most;
  state = g.state;
  mode = g.mode;
  vbucket = g.vbucket;
  clock = g.clock;
  mark = g.mark;
  rows = rows-purge p t.head.mark.0 t.rows g.rows;
  keys = plain-laws.good-purge t.rows p g.keys;
}

-- a fresh table
pub free-good : (mark n : ℕ) → AllGood mark (replicate n None)
free-good mark zero = tt
free-good mark (suc n) = free-good mark n

free-distinct : (n : ℕ) → Distinct (replicate n None)
free-distinct zero = tt
free-distinct (suc n) = free-distinct n

pub fresh-good : FreshGood
fresh-good n state mode vbucket l m s k v =
    let e : length (replicate {A = Row} n None) ≡ n = length-replicate n None in
    record {
      least = rw e l;
      most = rw e m;
      state = s;
      mode = k;
      vbucket = v;
      clock = omega arith;
      mark = omega arith;
      rows = free-good 0 n;
      keys = free-distinct n;
    }

free-rows : (n : ℕ) → rows_bytes (replicate n None) ≡ replicate (n * 1312) 0
unfolding row_bytes
free-rows zero = refl
free-rows (suc n) =
    let e : suc n * 1312 ≡ 1312 + n * 1312 = omega arith in
    rw (e, ← replicate-append-replicate {A = ℕ} 1312 (n * 1312) 0) (ap (λ (l : List ℕ). replicate 1312 0 ++ l) (free-rows n))

pub fresh-bytes : (n state mode vbucket : ℕ) → table_bytes (fresh n state mode vbucket) ≡ head_bytes (fresh n state mode vbucket).head ++ replicate (n * 1312) 0
unfolding table_bytes
fresh-bytes n state mode vbucket = ap (λ (l : List ℕ). head_bytes (fresh n state mode vbucket).head ++ l) (free-rows n)
