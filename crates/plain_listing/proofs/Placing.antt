-- Places of rows in key order: the key at each, where one more goes, and what the places are then.
use native.Mathlib.Omega.{arith}
use native.Mathlib.Numerals.{add-one}
use mathlib.Core.Path.{◌≡◌, refl, sym, ap, ◌∙◌}
use mathlib.Core.Bool.{true, false}
use mathlib.Core.List.{List, [], ◌∷◌, ◌++◌, map, map-append}
use Prim.Native.Nat.{ℕ, zero, suc, ◌+◌, ◌-◌, ◌≤◌, ◌<◌}
use lib.ListN.{length, take, drop, get_or, length-drop, length-map, drop_of_length-le, get_or-map}
use lib.Seq.{drop-cons, drop-drop, get_or-drop}
use Rattle.keys.specs.Keys.{key_below}
use Rattle.document.specs.Documents.{Key}
use Rattle.listing.specs.Listing.{insert_key}
use Rattle.listing.specs.Order.{InOrder}
use Rattle.listing.proofs.Sorting.{insert-first, insert-after}
use Rattle.plain_listing.specs.Places.{key_at, keys_of, Within}

-- ---- maps over parts of a list
map-drop : (f : ℕ → Key) (n : ℕ) (l : List ℕ) → drop n (map f l) ≡ map f (drop n l)
map-drop f zero l = refl
map-drop f (suc n) [] = refl
map-drop f (suc n) (x ∷ l) = map-drop f n l

map-take : (f : ℕ → Key) (n : ℕ) (l : List ℕ) → take n (map f l) ≡ map f (take n l)
map-take f zero l = refl
map-take f (suc n) [] = refl
map-take f (suc n) (x ∷ l) = ap (λ (r : List Key). f x ∷ r) (map-take f n l)

-- ---- places of rows
module _ (n : ℕ) where
  within-at : (is : List ℕ) (q : ℕ) → Within n is → q < length is → get_or is q 0 < n
  within-at [] q w h = let z : ⊥ = omega arith in absurd z
  within-at (i ∷ is) zero w h = w.0
  within-at (i ∷ is) (suc q) w h = within-at is q w.1 (omega arith)

  within-drop : (m : ℕ) (is : List ℕ) → Within n is → Within n (drop m is)
  within-drop zero is w = w
  within-drop (suc m) [] w = tt
  within-drop (suc m) (i ∷ is) w = within-drop m is w.1

  within-put : (m : ℕ) (is js : List ℕ) → Within n is → Within n js → Within n (take m is ++ js)
  within-put zero is js w v = v
  within-put (suc m) [] js w v = v
  within-put (suc m) (i ∷ is) js w v = (w.0, within-put m is js w.1 v)

  pub place-below : (order : List ℕ) (first j : ℕ) → Within n (drop first order) → first ≤ j → j < length order → get_or order j 0 < n
  place-below order first j w h k =
      let e : first + (j - first) ≡ j = omega arith in
      let p = within-at (drop first order) (j - first) w (simp length-drop (omega arith)) in
      let q : get_or (drop first order) (j - first) 0 ≡ get_or order j 0 = get_or-drop first order (j - first) 0 ∙ ap (λ (i : ℕ). get_or order i 0) e in
      rw q at p

-- ---- the keys of places
module _ (b order : List ℕ) where
  pub keys_step : (j : ℕ) → j < length order → keys_of b order j ≡ key_at b (get_or order j 0) ∷ keys_of b order (j + 1)
  keys_step j h = rw (add-one, drop-cons order j 0 h)

  pub keys_none : (j : ℕ) → length order ≤ j → keys_of b order j ≡ []
  keys_none j h = ap (map (key_at b)) (drop_of_length-le order h)

  module _ (first : ℕ) where
    nth-key : (q : ℕ) → get_or (keys_of b order first) q (key_at b 0) ≡ key_at b (get_or order (first + q) 0)
    nth-key q = get_or-map (key_at b) (drop first order) q 0 ∙ ap (key_at b) (get_or-drop first order q 0)

    count-keys : length (keys_of b order first) ≡ length order - first
    count-keys = length-map (drop first order) (key_at b) ∙ length-drop first order

    later-keys : (r : ℕ) → first ≤ r → drop (r - first) (keys_of b order first) ≡ keys_of b order r
    later-keys r h =
        let e : first + (r - first) ≡ r = omega arith in
        map-drop (key_at b) (r - first) (drop first order) ∙ ap (map (key_at b)) (drop-drop (r - first) first order ∙ ap (λ (m : ℕ). drop m order) e)

    -- where a key goes: before all of them, or after one that is below it
    module _ (key : Key) where
      pub goes_first : (first < length order → key_below (key_at b (get_or order first 0)) key ≡ false)
          → insert_key key (keys_of b order first) ≡ take (first - first) (keys_of b order first) ++ (key ∷ keys_of b order first)
      goes_first h =
          let z : first - first ≡ 0 = omega arith in
          let y : first + 0 ≡ first = omega arith in
          rw z (insert-first (key_at b 0) key (keys_of b order first)
          (λ m. ap (λ (k : Key). key_below k key) (nth-key 0 ∙ ap (λ (i : ℕ). key_at b (get_or order i 0)) y) ∙ h (omega (arith, count-keys))))

      pub goes_after : (r : ℕ) → InOrder (keys_of b order first) → first < r → r ≤ length order → key_below (key_at b (get_or order (r - 1) 0)) key ≡ true
          → (r < length order → key_below (key_at b (get_or order r 0)) key ≡ false)
          → insert_key key (keys_of b order first) ≡ take (r - first) (keys_of b order first) ++ (key ∷ keys_of b order r)
      goes_after r o l m t h =
          let q = r - first - 1 in
          let e : suc q ≡ r - first = omega arith in
          let y : first + q ≡ r - 1 = omega arith in
          let x : first + suc q ≡ r = omega arith in
          insert-after (key_at b 0) key (keys_of b order first) q o (omega (arith, count-keys))
          (ap (λ (k : Key). key_below k key) (nth-key q ∙ ap (λ (i : ℕ). key_at b (get_or order i 0)) y) ∙ t)
          (λ n. ap (λ (k : Key). key_below k key) (nth-key (suc q) ∙ ap (λ (i : ℕ). key_at b (get_or order i 0)) x) ∙ h (omega (arith, count-keys)))
          ∙ ap (λ (i : ℕ). take i (keys_of b order first) ++ (key ∷ drop i (keys_of b order first))) e
          ∙ ap (λ (ks : List Key). take (r - first) (keys_of b order first) ++ (key ∷ ks)) (later-keys r (omega arith))

    -- a place put among them: the places are those of rows, and their keys are in order
    module _ (p place : ℕ) (order' : List ℕ) (h : first ≤ p) (e : drop (first - 1) order' ≡ take (p - first) (drop first order) ++ (place ∷ drop p order)) where
      pub put-within : (n : ℕ) → Within n (drop first order) → place < n → Within n (drop (first - 1) order')
      put-within n w k =
          let q : first + (p - first) ≡ p = omega arith in
          let d : drop (p - first) (drop first order) ≡ drop p order = drop-drop (p - first) first order ∙ ap (λ (m : ℕ). drop m order) q in
          let v : Within n (drop p order) = rw d at (within-drop n (p - first) (drop first order) w) in
          rw e (within-put n (p - first) (drop first order) (place ∷ drop p order) w (k, v))

      put-keys : keys_of b order' (first - 1) ≡ take (p - first) (keys_of b order first) ++ (key_at b place ∷ keys_of b order p)
      put-keys =
          ap (map (key_at b)) e
          ∙ map-append (key_at b) (take (p - first) (drop first order)) (place ∷ drop p order)
          ∙ ap (λ (ks : List Key). ks ++ (key_at b place ∷ keys_of b order p)) (sym (map-take (key_at b) (p - first) (drop first order)))

      pub put-placed : (key : Key) → key ≡ key_at b place → insert_key key (keys_of b order first) ≡ take (p - first) (keys_of b order first) ++ (key ∷ keys_of b order p)
          → keys_of b order' (first - 1) ≡ insert_key (key_at b place) (keys_of b order first)
      put-placed key f q = put-keys ∙ sym (rw f at q)

-- no places at first
pub none_within : (n : ℕ) (order : List ℕ) (m : ℕ) → length order ≤ m → Within n (drop m order)
none_within n order m h = rw (drop_of_length-le order h) tt
