-- One row of a run of rows, what a row's first bytes say, and the row at a place.
use Prim.Native.Nat.{ℕ, zero, suc, ◌+◌, ◌-◌, ◌*◌, ◌≤◌, ◌<◌}
use mathlib.Core.Path.{◌≡◌, refl, ap, ◌∙◌}
use mathlib.Core.Bool.{true, ◌&&◌}
use mathlib.Core.List.{List, [], ◌∷◌, map}
use Rattle.std.specs.Prelude.{Some, None}
use Rattle.std.specs.Simd.{first_chunks}
use native.Mathlib.Omega.{arith}
use native.Mathlib.Numerals.{add-one}
use lib.Dec.{eqb, leb}
use lib.ListN.{length, take, drop, get_or, get_or-map, length-take, length-drop}
use lib.Seq.{drop-drop}
use borrow.Author.Tests.{leb-true, eqb-true, ne_eqb}
use Rattle.octets.specs.Parts.{part}
use Rattle.octets.specs.BigEndian.{num, be, be_from}
use Rattle.octets.specs.Compare.{zeros}
use Rattle.octets.proofs.Choices.{both, cond-elim}
use Rattle.octets.proofs.Lists.{part_length}
use Rattle.octets.proofs.Options.{none-some}
use Rattle.document.specs.Documents.{Entry}
use Rattle.document.specs.Stored.{metadata_of, alive, live}
use Rattle.rows.specs.Row.{slot_of, doc_of, key_of, row_of}
use Rattle.rows.specs.Table.{chunks, row_count, rows_of, table_of, row_at}
use Rattle.rows.specs.RowRules.{size_ok, used_ok, row_sound, all_sound}

pub none_left : (n : ℕ) (b : List ℕ) → n ≤ 0 → chunks n b ≡ []
none_left n b h = let e : n ≡ 0 = omega arith in rw e

-- a row cut from its place to its end
pub row_cut : (s : List ℕ) (at : ℕ) → take (at + 1312 - at) (drop at s) ≡ part s at 1312
row_cut s at = let e : at + 1312 - at ≡ 1312 = omega arith in rw e

module _ (s : List ℕ) (at n : ℕ) (h : 0 < n) where
  pub one-row : chunks n (drop at s) ≡ part s at 1312 ∷ chunks (n - 1) (drop (at + 1312) s)
  one-row =
      let e : n ≡ suc (n - 1) = omega arith in
      ap (λ (m : ℕ). chunks m (drop at s)) e ∙ rw (drop-drop 1312 at s)

  pub sound-row : (mark : ℕ) → all_sound mark (chunks n (drop at s)) ≡ (row_sound mark (part s at 1312) && all_sound mark (chunks (n - 1) (drop (at + 1312) s)))
  sound-row mark = ap (all_sound mark) one-row

-- a row is free where its kind is 0
module _ (r : List ℕ) where
  pub row-free : num r 0 2 ≡ 0 → row_of r ≡ None
  unfolding row_of slot_of
  row-free e = rw e

  pub row-used : (num r 0 2 ≡ 0 → ⊥) → row_of r ≡ Some (record { key = key_of r; doc = doc_of r })
  unfolding row_of slot_of
  row-used e = rw (ne_eqb (num r 0 2) 0 e)

  pub row-alive : (clock kind expiry : ℕ) → kind ≡ num r 0 2 → expiry ≡ num r 12 4 → live (Some (metadata_of (doc_of r))) clock ≡ alive (eqb kind 2) expiry clock
  unfolding live doc_of slot_of
  row-alive clock kind expiry k e = rw (k, e)

  pub sound-free : (mark : ℕ) → num r 0 2 ≡ 0 → row_sound mark r ≡ zeros r
  unfolding row_sound slot_of
  sound-free mark e = rw e

  pub sound-used : (mark : ℕ) → (num r 0 2 ≡ 0 → ⊥) → row_sound mark r ≡ (used_ok mark (slot_of r) && zeros (drop (32 + (num r 2 2 + num r 4 4)) r))
  unfolding row_sound slot_of
  sound-used mark e = rw (ne_eqb (num r 0 2) 0 e)

-- the first of a run of rows
module _ (s : List ℕ) (at later : ℕ) where
  pub first-row : rows_of (later + 1) (drop at s) ≡ row_of (part s at 1312) ∷ rows_of later (drop (at + 1312) s)
  first-row = rw (add-one, drop-drop 1312 at s)

-- the row at a place
chunk-at : (n i : ℕ) (b : List ℕ) → i < n → get_or (chunks n b) i [] ≡ part b (i * 1312) 1312
chunk-at zero i b h = let z : ⊥ = omega arith in absurd z
chunk-at (suc n) zero b h = refl
chunk-at (suc n) (suc i) b h =
    let e : suc i * 1312 ≡ 1312 + i * 1312 = omega arith in
    chunk-at n i (drop 1312 b) (omega arith) ∙ rw (e, drop-drop (i * 1312) 1312 b)

chunk-none : (n i : ℕ) (b : List ℕ) → n ≤ i → get_or (chunks n b) i [] ≡ []
chunk-none zero i b h = refl
chunk-none (suc n) zero b h = let z : ⊥ = omega arith in absurd z
chunk-none (suc n) (suc i) b h = chunk-none n i (drop 1312 b) (omega arith)

module _ (b : List ℕ) (i : ℕ) where
  pub row-there : i < row_count b → row_at b i ≡ part b (16 + i * 1312) 1312
  row-there h = chunk-at (row_count b) i (drop 16 b) h ∙ rw (drop-drop (i * 1312) 16 b)

  pub row-size : i < row_count b → length (row_at b i) ≡ 1312
  row-size h = ap length (row-there h) ∙ part_length b (16 + i * 1312) 1312 (omega arith)

  pub row-nowhere : row_count b ≤ i → row_at b i ≡ []
  row-nowhere h = chunk-none (row_count b) i (drop 16 b) h

pub no_row : row_of [] ≡ None
unfolding row_of slot_of be be_from
no_row = refl

-- the row at a place, as bytes and as what they say
pub row-at : (b : List ℕ) (i : ℕ) → get_or (table_of b).rows i None ≡ row_of (row_at b i)
unfolding table_of
row-at b i = rw no_row at (get_or-map row_of (chunks (row_count b) (drop 16 b)) i [])

pub all-rows : (b : List ℕ) (rs : List (List ℕ)) → rs ≡ chunks (row_count b) (drop 16 b) → map row_of rs ≡ (table_of b).rows
unfolding table_of
all-rows b rs e = ap (map row_of) e

-- a used row's entry, whose key stands after the fixed part
module _ (r : List ℕ) where
  pub row-entry : (e : Entry) → row_of r ≡ Some e → (key_of r ≡ e.key) × (doc_of r ≡ e.doc)
  unfolding row_of
  row-entry e h =
      let x : Entry = record { key = key_of r; doc = doc_of r } in
      cond-elim (eqb (slot_of r).kind 0) None (Some x) (Some e) h
      (λ t z. none-some e z)
      (λ f z. let q : x ≡ e = cc in (ap (λ (w : Entry). w.key) q, ap (λ (w : Entry). w.doc) q))

  pub key-inside : length r ≤ 1312 → length (key_of r) ≤ 1280
  unfolding key_of
  key-inside h = simp (length-take, length-drop) (omega arith)

-- memory with no room for a header has no rows
pub no_rows : (b : List ℕ) → length b < 16 → (table_of b).rows ≡ []
unfolding table_of
no_rows b h = let z : row_count b ≡ 0 = omega arith in rw z

pub size-most : (len n : ℕ) → size_ok len n ≡ true → n ≤ 256
unfolding size_ok
size-most len n e = leb-true n 256 (both (leb n 256) (eqb len (16 + n * 1312)) (both (leb 1 n) (leb n 256 && eqb len (16 + n * 1312)) e).1).0

pub size_is : (len n : ℕ) → size_ok len n ≡ true → len ≡ 16 + n * 1312
unfolding size_ok
size_is len n e = eqb-true len (16 + n * 1312) (both (leb n 256) (eqb len (16 + n * 1312)) (both (leb 1 n) (leb n 256 && eqb len (16 + n * 1312)) e).1).1

-- a slice's runs as the library cuts them
pub runs-chunks : (n : ℕ) (b : List ℕ) → first_chunks 1312 n b ≡ chunks n b
runs-chunks zero b = refl
runs-chunks (suc n) b = ap (λ (rs : List (List ℕ)). take 1312 b ∷ rs) (runs-chunks n (drop 1312 b))
