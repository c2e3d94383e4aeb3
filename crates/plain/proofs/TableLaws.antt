-- A table's bytes and what they say, both ways: sound bytes are the bytes of a good table.
use Rattle.std.specs.Prelude.{is_some, Option, Some, None}
use native.Mathlib.Omega.{arith}
use mathlib.Core.Path.{◌≡◌, refl, sym, ap, ◌∙◌}
use mathlib.Core.Logic.{◌⊎◌, inl, ⊎_elim}
use mathlib.Core.Bool.{true, not, ◌&&◌, true≢false}
use mathlib.Core.List.{List, [], ◌∷◌, ◌++◌}
use Prim.Native.Nat.{ℕ, zero, suc, ◌+◌, ◌*◌, ◌^◌, ◌≤◌, ◌<◌}
use lib.ListN.{length, take, drop, get_or, length-append, length-take, length-drop, take-append-drop}
use lib.Seq.{take_at, drop_at}
use lib.Dec.{eqb, leb}
use borrow.Author.Tests.{leb-true, eqb-true, le-leb, eq-eqb}
use Rattle.octets.specs.Parts.{Bytes, part}
use Rattle.octets.specs.BigEndian.{be, be_from, bytes_of}
use Rattle.octets.specs.Compare.{zeros, same}
use Rattle.octets.proofs.Choices.{cases, both}
use Rattle.octets.proofs.Lists.{bytes_take, bytes_drop, glue, glue-rest}
use Rattle.octets.proofs.Numbers.{be-bytes, num-back, num-below}
use Rattle.octets.proofs.Tests.{same_true}
use Rattle.document.specs.Documents.{Key, Doc}
use Rattle.document.specs.declared.Head.{Head}
use Rattle.rows.specs.Row.{Row, slot_of, row_of, row_bytes}
use Rattle.rows.specs.Table.{Table, head_of, chunks, row_count, rows_of, table_of, head_bytes, rows_bytes, table_bytes}
use Rattle.plain.specs.Lookup.{find_in}
use Rattle.plain.specs.Damage.{distinct, sound}
use Rattle.rows.specs.RowRules.{size_ok, head_ok, row_sound, all_sound}
use Rattle.plain.specs.Plain.{Distinct}
use Rattle.rows.specs.Find.{find_row}
use Rattle.plain.specs.Claims.{Good, SoundGood, GoodSound}
use Rattle.rows.specs.Good.{AllGood}
use Rattle.plain.proofs.Places.{nothing-find}
use Rattle.rows.proofs.RowLaws.{RowGood, row-length, row_read, row-sound, row_back}

-- a run of rows
module _ (mark : ℕ) where
  pub good-first : (w : Row) (ws : List Row) → AllGood mark (w ∷ ws) → RowGood mark w × AllGood mark ws
  good-first None ws g = (tt, g)
  good-first (Some e) ws g = g

  pub good_more : (w : Row) (ws : List Row) → RowGood mark w → AllGood mark ws → AllGood mark (w ∷ ws)
  good_more None ws g a = a
  good_more (Some e) ws g a = (g, a)

  pub rows-length : (ws : List Row) → AllGood mark ws → length (rows_bytes ws) ≡ length ws * 1312
  rows-length [] g = refl
  rows-length (w ∷ ws) g =
      let h = good-first w ws g in
      rw length-append (omega (arith, row-length mark w h.0, rows-length ws h.1))

  -- the first row of a run, and those after it
  module _ (w : Row) (ws : List Row) (g : RowGood mark w) where
    pub first-row : take 1312 (rows_bytes (w ∷ ws)) ≡ row_bytes w
    first-row = take_at (row_bytes w) (rows_bytes ws) 1312 (row-length mark w g)

    pub later_rows : drop 1312 (rows_bytes (w ∷ ws)) ≡ rows_bytes ws
    later_rows = drop_at (row_bytes w) (rows_bytes ws) 1312 (row-length mark w g)

  module _ (small : mark < 2 ^ 64) where
    pub rows-read : (ws : List Row) → AllGood mark ws → rows_of (length ws) (rows_bytes ws) ≡ ws
    rows-read [] g = refl
    rows-read (w ∷ ws) g =
        let h = good-first w ws g in
        (λ i. row_of (first-row w ws h.0 i) ∷ rows_of (length ws) (later_rows w ws h.0 i))
        ∙ (λ i. row_read mark w h.0 small i ∷ rows-read ws h.1 i)

    rows-sound : (ws : List Row) → AllGood mark ws → all_sound mark (chunks (length ws) (rows_bytes ws)) ≡ true
    rows-sound [] g = refl
    rows-sound (w ∷ ws) g =
        let h = good-first w ws g in
        (λ i. row_sound mark (first-row w ws h.0 i) && all_sound mark (chunks (length ws) (later_rows w ws h.0 i)))
        ∙ (λ i. row-sound mark w h.0 small i && rows-sound ws h.1 i)

  rows_back : (n : ℕ) (b : List ℕ) → Bytes b → length b ≡ n * 1312 → all_sound mark (chunks n b) ≡ true → (rows_bytes (rows_of n b) ≡ b) × AllGood mark (rows_of n b)
  rows_back zero [] y l e = (refl, tt)
  rows_back zero (x ∷ b) y l e = absurd (omega arith)
  rows_back (suc n) b y l e =
      let q = both (row_sound mark (take 1312 b)) (all_sound mark (chunks n (drop 1312 b))) e in
      let l₁ : length (take 1312 b) ≡ 1312 = simp length-take (omega arith) in
      let l₂ : length (drop 1312 b) ≡ n * 1312 = simp length-drop (omega arith) in
      let r = row_back mark (take 1312 b) (bytes_take 1312 b y) l₁ q.0 in
      let s = rows_back n (drop 1312 b) (bytes_drop 1312 b y) l₂ q.1 in
      ((λ i. r.0 i ++ s.0 i) ∙ take-append-drop 1312 b, good_more (row_of (take 1312 b)) (rows_of n (drop 1312 b)) r.1 s.1)

pub length-rows : (n : ℕ) (b : List ℕ) → length (rows_of n b) ≡ n
length-rows zero b = refl
length-rows (suc n) b = ap suc (length-rows n (drop 1312 b))

pub count-rows : (b : List ℕ) → length (table_of b).rows ≡ row_count b
unfolding table_of
count-rows b = length-rows (row_count b) (drop 16 b)

-- no two used rows have one key, as the test and as the engine's rule
none_found : (o : Option Doc) → not (is_some o) ≡ true → o ≡ None
none_found None e = refl
none_found (Some d) e = absurd (true≢false (sym e))

pub distinct-keys : (ws : List Row) → distinct ws ≡ true → Distinct ws
distinct-keys [] e = tt
distinct-keys (None ∷ ws) e = distinct-keys ws e
distinct-keys (Some x ∷ ws) e =
    let q = both (not (is_some (find_row ws x.key))) (distinct ws) e in
    (none_found (find_row ws x.key) q.0, distinct-keys ws q.1)

pub keys-distinct : (ws : List Row) → Distinct ws → distinct ws ≡ true
keys-distinct [] g = refl
keys-distinct (None ∷ ws) g = keys-distinct ws g
keys-distinct (Some x ∷ ws) g = λ i. not (is_some (g.0 i)) && keys-distinct ws g.1 i

-- the header
head-back : (b : List ℕ) → Bytes b → 16 ≤ length b → head_bytes (head_of b) ≡ part b 0 16
unfolding head_bytes head_of
head-back b y l =
    (λ i. num-back b 0 1 y (omega arith) i ++ (num-back b 1 1 y (omega arith) i ++ (num-back b 2 2 y (omega arith) i ++ (num-back b 4 4 y (omega arith) i ++ num-back b 8 8 y (omega arith) i))))
    ∙ ap (λ (t : List ℕ). part b 0 1 ++ (part b 1 1 ++ (part b 2 2 ++ t))) (glue b 4 4 8)
    ∙ ap (λ (t : List ℕ). part b 0 1 ++ (part b 1 1 ++ t)) (glue b 2 2 12)
    ∙ ap (λ (t : List ℕ). part b 0 1 ++ t) (glue b 1 1 14)
    ∙ glue b 0 1 15

-- the parts of soundness
pub record Sound (b : List ℕ) : Type 0 where
  pub least : 1 ≤ row_count b
  pub most : row_count b ≤ 256
  pub size : length b ≡ 16 + row_count b * 1312
  pub header : head_ok (head_of b) ≡ true
  pub each : all_sound (head_of b).mark.0 (chunks (row_count b) (drop 16 b)) ≡ true
  pub keys : distinct (rows_of (row_count b) (drop 16 b)) ≡ true

-- each row of sound rows is sound; where there is none, no bytes are
pub each-sound : (mark : ℕ) (rs : List (List ℕ)) (i : ℕ) → all_sound mark rs ≡ true → row_sound mark (get_or rs i []) ≡ true
unfolding row_sound slot_of be be_from zeros
each-sound mark [] i e = refl
each-sound mark (r ∷ rs) zero e = (both (row_sound mark r) (all_sound mark rs) e).0
each-sound mark (r ∷ rs) (suc i) e = each-sound mark rs i (both (row_sound mark r) (all_sound mark rs) e).1

pub sound-parts : (b : List ℕ) → sound b ≡ true → Sound b
unfolding sound size_ok
sound-parts b e =
    let n = row_count b in
    let rest = all_sound (head_of b).mark.0 (chunks n (drop 16 b)) && distinct (rows_of n (drop 16 b)) in
    let q = both (size_ok (length b) n) (head_ok (head_of b) && rest) e in
    let y = both (leb 1 n) (leb n 256 && eqb (length b) (16 + n * 1312)) q.0 in
    let z = both (leb n 256) (eqb (length b) (16 + n * 1312)) y.1 in
    let p = both (head_ok (head_of b)) rest q.1 in
    let k = both (all_sound (head_of b).mark.0 (chunks n (drop 16 b))) (distinct (rows_of n (drop 16 b))) p.1 in
    record {
      least = leb-true 1 n y.0;
      most = leb-true n 256 z.0;
      size = eqb-true (length b) (16 + n * 1312) z.1;
      header = p.0;
      each = k.0;
      keys = k.1;
    }

record HeadGood (h : Head) : Type 0 where
  state : (1 ≤ h.state) × (h.state ≤ 4)
  mode : (1 ≤ h.mode) × (h.mode ≤ 2)

module _ (h : Head) where
  head-parts : head_ok h ≡ true → HeadGood h
  unfolding head_ok
  head-parts e =
      let q = both (leb 1 h.state && leb h.state 4) (leb 1 h.mode && leb h.mode 2) e in
      let s = both (leb 1 h.state) (leb h.state 4) q.0 in
      let m = both (leb 1 h.mode) (leb h.mode 2) q.1 in
      record {
        state = (leb-true 1 h.state s.0, leb-true h.state 4 s.1);
        mode = (leb-true 1 h.mode m.0, leb-true h.mode 2 m.1);
      }

  head_ok-good : HeadGood h → head_ok h ≡ true
  unfolding head_ok
  head_ok-good g = λ i.
      (le-leb 1 h.state g.state.0 i && le-leb h.state 4 g.state.1 i)
      && (le-leb 1 h.mode g.mode.0 i && le-leb h.mode 2 g.mode.1 i)

pub sound-good : SoundGood
unfolding table_bytes table_of head_of
sound-good b y e =
    let s = sound-parts b e in
    let l : length (drop 16 b) ≡ row_count b * 1312 = simp length-drop (omega (arith, s.size)) in
    let r = rows_back (head_of b).mark.0 (row_count b) (drop 16 b) (bytes_drop 16 b y) l s.each in
    let h = head-parts (head_of b) s.header in
    let n = length-rows (row_count b) (drop 16 b) in (
      (λ i. head-back b y (omega (arith, s.size)) i ++ r.0 i) ∙ glue-rest b 0 16,
      record {
        least = rw n s.least;
        most = rw n s.most;
        state = h.state;
        mode = h.mode;
        vbucket = num-below b 2 2 y;
        clock = num-below b 4 4 y;
        mark = num-below b 8 8 y;
        rows = r.1;
        keys = distinct-keys (rows_of (row_count b) (drop 16 b)) s.keys;
      },
    )

-- every key of a good table has 1 to 250 bytes
pub no_key : (mark : ℕ) (ws : List Row) (key : Key) → AllGood mark ws → (length key ≡ 0) ⊎ (250 < length key) → find_row ws key ≡ None
no_key mark [] key g h = refl
no_key mark (None ∷ ws) key g h = no_key mark ws key g h
no_key mark (Some x ∷ ws) key g h =
    cases (same x.key key)
    (λ s.
    let l : length x.key ≡ length key = ap length (same_true x.key key s) in
    ⊎_elim (λ z. absurd (omega (arith, g.0.key-least))) (λ z. absurd (omega (arith, g.0.key-most))) h)
    (λ s. rw s (no_key mark ws key g.1 h))

pub empty-key : (b : List ℕ) → Bytes b → sound b ≡ true → (key : List ℕ) → length key ≡ 0 → find_in key 0 (table_of b).rows ≡ None
empty-key b y s key e = nothing-find key 0 (table_of b).rows (no_key (table_of b).head.mark.0 (table_of b).rows key (sound-good b y s).1.rows (inl e))

-- a good table is read back from its bytes
module _ (t : Table) (g : Good t) where
  pub head_read : head_of (table_bytes t) ≡ t.head
  unfolding head_of table_bytes head_bytes bytes_of
  head_read = λ i. record {
    state = be-bytes 1 t.head.state (omega (arith, g.state.1)) i;
    mode = be-bytes 1 t.head.mode (omega (arith, g.mode.1)) i;
    vbucket = be-bytes 2 t.head.vbucket g.vbucket i;
    clock = be-bytes 4 t.head.clock g.clock i;
    mark = record { 0 = be-bytes 8 t.head.mark.0 g.mark i };
  }

  pub table-length : length (table_bytes t) ≡ 16 + length t.rows * 1312
  unfolding table_bytes head_bytes bytes_of
  table-length = rw (rows-length t.head.mark.0 t.rows g.rows) (omega arith)

  pub table-count : row_count (table_bytes t) ≡ length t.rows
  table-count = rw table-length (omega arith)

pub rows-after : (t : Table) → drop 16 (table_bytes t) ≡ rows_bytes t.rows
unfolding table_bytes head_bytes bytes_of
rows-after t = refl

rows-there : (t : Table) → Good t → rows_of (row_count (table_bytes t)) (drop 16 (table_bytes t)) ≡ t.rows
rows-there t g = rw (table-count t g, rows-after) (rows-read t.head.mark.0 g.mark t.rows g.rows)

pub good-sound : GoodSound
unfolding sound size_ok table_of
good-sound t g =
    let k = length t.rows in
    let n = table-count t g in
    let l = table-length t g in
    let h = head_read t g in (
      (λ i. size_ok (l i) (n i)
          && (head_ok (h i)
          && (all_sound (h i).mark.0 (chunks (n i) (rows-after t i)) && distinct (rows-there t g i))))
          ∙ (λ i. (le-leb 1 k g.least i && (le-leb k 256 g.most i && eq-eqb (16 + k * 1312) (16 + k * 1312) refl i))
          && (head_ok-good t.head (record { state = g.state; mode = g.mode }) i
          && (rows-sound t.head.mark.0 g.mark t.rows g.rows i && keys-distinct t.rows g.keys i))),
      (λ i. record { head = h i; rows = rows-there t g i }),
    )
