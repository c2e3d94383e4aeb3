-- Halving: each step, what a step reads, and that on rows in order it finds what a walk over them finds.
use native.Mathlib.Omega.{arith}
use native.Mathlib.Numerals.{add-one}
use native.Mathlib.Nat.{add-zero}
use mathlib.Core.Path.{◌≡◌, refl, sym, ap, ◌∙◌}
use mathlib.Core.Bool.{true}
use mathlib.Core.List.{List, [], ◌∷◌, map}
use Rattle.std.specs.Prelude.{Some, None, slice_get}
use Rattle.std.proofs.lemmas.Option.{get_or_from_slice_get}
use Rattle.octets.proofs.Options.{none-some}
use Rattle.std.specs.declared.cmp.Ordering.{Ordering}
use Rattle.std.specs.declared.cmp.Ordering.TheVariants.{Less, Equal, Greater}
use Prim.Native.Nat.{ℕ, zero, suc, ◌+◌, ◌-◌, ◌≤◌, ◌<◌}
use lib.Dec.{ltb, eqb}
use lib.ListN.{length, drop, get_or, get_or-map, length-map, drop_of_length-le}
use lib.Seq.{drop-cons}
use borrow.Author.Tests.{lt-ltb, le-ltb, ltb-true, ltb-false}
use Rattle.octets.specs.BigEndian.{num}
use Rattle.octets.proofs.Choices.{cases}
use Rattle.keys.specs.Keys.{side_of, by_side}
use Rattle.keys.proofs.KeyLaws.{sides}
use Rattle.document.specs.Documents.{Key}
use Rattle.engine.specs.declared.Place.{Place}
use Rattle.engine.specs.declared.Place.TheVariants.{Over, Into}
use Rattle.rows.specs.Row.{Row, key_of, row_of}
use Rattle.rows.proofs.OneRow.{no_row, row-free, row-used}
use Rattle.plain.proofs.Rows.{is_free-row}
use Rattle.ordered.specs.Order.{follows, row_side}
use Rattle.ordered.proofs.OrderLaws.{AllFollow, EachFollows, side_after}
use Rattle.ordered_lookup.specs.Halving.{middle, halve, halved, key_place, last_free}

pub over-into {ℓ} : {X : Type ℓ} (i j : ℕ) → Over i ≡ Into j → X
over-into i j e = let z : ◌≡◌ {A = ℕ} 0 1 = cc in absurd (omega arith)

pub over-same : (i j : ℕ) → Over i ≡ Over j → i ≡ j
over-same i j e = cc

module _ (side : ℕ → Ordering) where
  -- more steps than there are places change nothing
  enough : (m k lo hi : ℕ) → hi - lo ≤ m → hi - lo ≤ k → halve m side lo hi ≡ halve k side lo hi
  unfolding halve
  enough zero zero lo hi h l = refl
  enough zero (suc k) lo hi h l = rw (le-ltb lo hi (omega arith))
  enough (suc m) zero lo hi h l = rw (le-ltb lo hi (omega arith))
  enough (suc m) (suc k) lo hi h l =
      cases (ltb lo hi)
      (λ t.
      let q = ltb-true lo hi t in
      let mid = middle lo hi in
      let above = enough m k (mid + 1) hi (omega arith) (omega arith) in
      let below = enough m k lo mid (omega arith) (omega arith) in
      rw t (λ i. by_side (side mid) (above i) (Over mid) (below i)))
      (λ f. rw f)

  -- a row's place is that of a row on neither side
  pub halve-over : (m lo hi i : ℕ) → halve m side lo hi ≡ Over i → (i < hi) × (side i ≡ Equal)
  unfolding halve
  halve-over zero lo hi i e = over-into i lo (sym e)
  halve-over (suc m) lo hi i e =
      cases (ltb lo hi)
      (λ t.
      let q = ltb-true lo hi t in
      let mid = middle lo hi in
      sides (side mid)
      (λ l. halve-over m (mid + 1) hi i (rw (t, l) at e))
      (λ s. let z : mid ≡ i = over-same mid i (rw (t, s) at e) in (omega arith, ap side (sym z) ∙ s))
      (λ g. let h = halve-over m lo mid i (rw (t, g) at e) in (omega (arith, h.0), h.1)))
      (λ f. over-into i lo (sym (rw f at e)))

  module _ (lo hi : ℕ) where
    pub halved-end : hi ≤ lo → halved side lo hi ≡ Into lo
    unfolding halved halve
    halved-end h = let e : hi - lo ≡ 0 = omega arith in rw e

    halved-step : lo < hi → halved side lo hi ≡ by_side (side (middle lo hi)) (halved side (middle lo hi + 1) hi) (Over (middle lo hi)) (halved side lo (middle lo hi))
    unfolding halved halve
    halved-step h =
        let n = hi - lo - 1 in
        let mid = middle lo hi in
        let e : hi - lo ≡ suc n = omega arith in
        let above = enough n (hi - (mid + 1)) (mid + 1) hi (omega arith) (omega arith) in
        let below = enough n (mid - lo) lo mid (omega arith) (omega arith) in
        ap (λ (k : ℕ). halve k side lo hi) e ∙ rw (lt-ltb lo hi h) (λ i. by_side (side mid) (above i) (Over mid) (below i))

    module _ (h : lo < hi) (o : Ordering) (e : o ≡ side (middle lo hi)) where
      pub halved-less : o ≡ Less → halved side lo hi ≡ halved side (middle lo hi + 1) hi
      halved-less l = halved-step h ∙ rw (sym e ∙ l)

      pub halved-equal : o ≡ Equal → halved side lo hi ≡ Over (middle lo hi)
      halved-equal l = halved-step h ∙ rw (sym e ∙ l)

      pub halved-greater : o ≡ Greater → halved side lo hi ≡ halved side lo (middle lo hi)
      halved-greater l = halved-step h ∙ rw (sym e ∙ l)

-- rows as a step reads them
module _ (rs : List (List ℕ)) where
  row_read : (i : ℕ) → row_of (get_or rs i []) ≡ get_or (map row_of rs) i None
  row_read i = sym (rw no_row at (get_or-map row_of rs i []))

  -- the side of the key on which the row at a place stands
  abbrev pub side_at : Key → ℕ → Ordering
  side_at key i = row_side key (get_or (map row_of rs) i None)

  pub side-read : (key : Key) (i : ℕ) → row_side key (row_of (get_or rs i [])) ≡ side_at key i
  side-read key i = ap (row_side key) (row_read i)

  pub halving-start : (key : Key) → key_place key (map row_of rs) ≡ halved (side_at key) 0 (length rs)
  unfolding key_place
  halving-start key = ap (halved (side_at key) 0) (length-map rs row_of)

last-free : (rs : List (List ℕ)) → 0 < length rs → eqb (num (get_or rs (length rs - 1) []) 0 2) 0 ≡ last_free (map row_of rs)
last-free [] h = absurd (omega arith)
last-free (r ∷ []) h = sym (is_free-row r)
last-free (r ∷ q ∷ rs) h =
    let z : suc (suc (length rs)) - 1 ≡ suc (suc (length rs) - 1) = omega arith in
    ap (λ (m : ℕ). eqb (num (get_or (r ∷ q ∷ rs) m []) 0 2) 0) z ∙ last-free (q ∷ rs) (omega arith)

pub last-some : (rs : List (List ℕ)) (r : List ℕ) → Some r ≡ slice_get rs (length rs - 1) → eqb (num r 0 2) 0 ≡ last_free (map row_of rs)
last-some [] r e = absurd (none-some r (sym e))
last-some (q ∷ rs) r e =
    ap (λ (x : List ℕ). eqb (num x 0 2) 0) (sym (get_or_from_slice_get (q ∷ rs) (length (q ∷ rs) - 1) r [] (sym e))) ∙ last-free (q ∷ rs) (omega arith)

-- a row's side, by its kind and its key
module _ (r key : List ℕ) where
  pub free-side : num r 0 2 ≡ 0 → row_side key (row_of r) ≡ Greater
  free-side e = rw (row-free r e)

  pub used-side : (num r 0 2 ≡ 0 → ⊥) → side_of (key_of r) key ≡ row_side key (row_of r)
  used-side n = rw (row-used r n)

-- rows in order, any two of them
pub all-at : (w : Row) (ws : List Row) → AllFollow w ws → (i : ℕ) → i < length ws → follows w (get_or ws i None) ≡ true
all-at w [] a i h = absurd (omega arith)
all-at w (v ∷ ws) a zero h = a.0
all-at w (v ∷ ws) a (suc i) h = all-at w ws a.1 i (omega arith)

each_at : (ws : List Row) → EachFollows ws → (i j : ℕ) → j < i → i < length ws → follows (get_or ws j None) (get_or ws i None) ≡ true
each_at [] c i j h k = absurd (omega arith)
each_at (w ∷ ws) c zero j h k = absurd (omega arith)
each_at (w ∷ ws) c (suc i) zero h k = all-at w ws c.0 i (omega arith)
each_at (w ∷ ws) c (suc i) (suc j) h k = each_at ws c.1 i j (omega arith) (omega arith)

-- against a walk: the first row that isn't below the key, counted from i
module _ (key : Key) where
  abbrev pub walked : ℕ → List Row → Place
  walked i [] = Into i
  walked i (w ∷ ws) = by_side (row_side key w) (walked (i + 1) ws) (Over i) (Into i)

  side_before : (w v : Row) → follows w v ≡ true → (row_side key v ≡ Greater → ⊥) → row_side key w ≡ Less
  side_before w v p n =
      sides (row_side key w)
      (λ l. l)
      (λ e. absurd (n (side_after key w v p (λ l. let z : ◌≡◌ {A = ℕ} 0 1 = cc in omega arith))))
      (λ g. absurd (n (side_after key w v p (λ l. let z : ◌≡◌ {A = ℕ} 0 1 = cc in omega arith))))

  module _ (ws : List Row) (c : EachFollows ws) where
    abbrev at : ℕ → Ordering
    at i = row_side key (get_or ws i None)

    -- a row before one that isn't above is below
    below : (i : ℕ) → i < length ws → (at i ≡ Greater → ⊥) → (j : ℕ) → j < i → at j ≡ Less
    below i h n j l = side_before (get_or ws j None) (get_or ws i None) (each_at ws c i j l h) n

    module _ (i : ℕ) (h : i < length ws) where
      walk_step : walked i (drop i ws) ≡ by_side (at i) (walked (i + 1) (drop (i + 1) ws)) (Over i) (Into i)
      walk_step = rw (drop-cons ws i None h, add-one)

      walk-equal : at i ≡ Equal → walked i (drop i ws) ≡ Over i
      walk-equal e = walk_step ∙ rw e

      walk-greater : at i ≡ Greater → walked i (drop i ws) ≡ Into i
      walk-greater e = walk_step ∙ rw e

    walk-skip : (d i : ℕ) → i + d ≤ length ws → ((j : ℕ) → j < i + d → at j ≡ Less) → walked i (drop i ws) ≡ walked (i + d) (drop (i + d) ws)
    walk-skip zero i h l = rw add-zero
    walk-skip (suc d) i h l =
        let e : i + suc d ≡ i + 1 + d = omega arith in
        walk_step i (omega arith) ∙ rw (l i (omega arith), e) (walk-skip d (i + 1) (omega arith) (λ j k. l j (omega arith)))

    walk-to : (i j : ℕ) → i ≤ j → j ≤ length ws → ((k : ℕ) → k < j → at k ≡ Less) → walked i (drop i ws) ≡ walked j (drop j ws)
    walk-to i j h k l =
        let e : i + (j - i) ≡ j = omega arith in
        walk-skip (j - i) i (omega arith) (λ x y. l x (omega arith)) ∙ rw e

    walk_end : (i : ℕ) → i ≤ length ws → (i < length ws → at i ≡ Greater) → walked i (drop i ws) ≡ Into i
    walk_end i h g =
        cases (ltb i (length ws))
        (λ t. walk-greater i (ltb-true i (length ws) t) (g (ltb-true i (length ws) t)))
        (λ f. rw (drop_of_length-le ws (ltb-false i (length ws) f)))

    -- hi is the end, or a row above the key
    halves : (m lo hi : ℕ) → hi - lo ≤ m → lo ≤ hi → hi ≤ length ws → (hi < length ws → at hi ≡ Greater) → halve m at lo hi ≡ walked lo (drop lo ws)
    unfolding halve
    halves zero lo hi h l n g = let e : lo ≡ hi = omega arith in sym (walk_end lo (omega arith) (λ k. rw e (g (omega arith))))
    halves (suc m) lo hi h l n g =
        cases (ltb lo hi)
        (λ t.
        let q = ltb-true lo hi t in
        let mid = middle lo hi in
        let k : mid < length ws = omega arith in
        rw t
        (sides (at mid)
        (λ s.
        let p : (at mid ≡ Greater → ⊥) = λ r. let z : ◌≡◌ {A = ℕ} 0 1 = cc in omega arith in
        let skipped = walk-to lo (mid + 1) (omega arith) (omega arith) (upto mid s (below mid k p)) in
        rw s (halves m (mid + 1) hi (omega arith) (omega arith) n g ∙ sym skipped))
        (λ s.
        let p : (at mid ≡ Greater → ⊥) = λ r. let z : ◌≡◌ {A = ℕ} 0 1 = cc in omega arith in
        rw s (sym (walk-to lo mid (omega arith) (omega arith) (below mid k p) ∙ walk-equal mid k s)))
        (λ s. rw s (halves m lo mid (omega arith) (omega arith) (omega arith) (λ _. s)))))
        (λ f.
        let q = ltb-false lo hi f in
        let e : lo ≡ hi = omega arith in
        rw f (sym (walk_end lo (omega arith) (λ k. rw e (g (omega arith))))))
      where
        upto : (i : ℕ) → at i ≡ Less → ((j : ℕ) → j < i → at j ≡ Less) → (j : ℕ) → j < i + 1 → at j ≡ Less
        upto i s b j h = cases (ltb j i) (λ t. b j (ltb-true j i t)) (λ f. let z = ltb-false j i f in let e : j ≡ i = omega arith in rw e s)

    pub halving-walks : key_place key ws ≡ walked 0 ws
    unfolding key_place halved
    halving-walks =
        let e : length ws - 0 ≡ length ws = omega arith in
        ap (λ (k : ℕ). halve k at 0 (length ws)) e ∙ halves (length ws) 0 (length ws) (omega arith) (omega arith) (omega arith) (λ k. absurd (omega arith))
