-- Fingerprints of rows: a row's own, what it means that a key's is not among those of some rows, and one more row seen, with its bucket.
use Prim.Native.Nat.{ℕ, suc, ◌+◌, ◌-◌, ◌<◌}
use mathlib.Core.Path.{◌≡◌, refl, sym, ap, ◌∙◌}
use mathlib.Core.Bool.{Bool, true, false, ◌&&◌, and_comm}
use mathlib.Core.List.{List, [], ◌∷◌, map}
use Rattle.std.specs.Prelude.{Some, None}
use Rattle.std.specs.Prelude.{is_none}
use Rattle.std.proofs.lemmas.List.{drop_more, drop-set}
use native.Mathlib.Omega.{arith}
use lib.Dec.{eqb}
use lib.ListN.{length, take, drop, get_or, set, replicate, length-replicate}
use lib.Seq.{drop-length}
use borrow.Author.Tests.{eq-eqb, eqb-true, eqb-false}
use Rattle.octets.specs.BigEndian.{num}
use Rattle.octets.specs.Compare.{same}
use Rattle.octets.proofs.Choices.{cases, neither}
use Rattle.octets.proofs.Tests.{same_true}
use Rattle.fingerprint.specs.Fingerprint.{fingerprint, bucket_of, print_among}
use Rattle.rows.specs.Row.{Row, row_of, key_of}
use Rattle.plain.specs.Lookup.{find_in}
use Rattle.plain.specs.Damage.{distinct}
use Rattle.plain_damage.specs.Print.{row_print}
use Rattle.plain_damage.proofs.Passes.{distinct-free, distinct-used}
use Rattle.rows.proofs.OneRow.{row-free, row-used}
use Rattle.plain_damage.proofs.Buckets.{seen_in, unseen}

module _ (r : List ℕ) where
  pub print-free : num r 0 2 ≡ 0 → row_print (row_of r) ≡ 0
  print-free e = rw (row-free r e)

  pub print-used : (num r 0 2 ≡ 0 → ⊥) → row_print (row_of r) ≡ fingerprint (key_of r)
  print-used e = rw (row-used r e)

-- a key whose fingerprint no row has is no row's
pub not-among : (key : List ℕ) (i : ℕ) (ws : List Row) → print_among (fingerprint key) (map row_print ws) ≡ false → is_none (find_in key i ws) ≡ true
unfolding print_among
not-among key i [] e = refl
not-among key i (None ∷ ws) e = not-among key (i + 1) ws (neither (eqb 0 (fingerprint key)) _ e).1
not-among key i (Some x ∷ ws) e =
    let n = neither (eqb (fingerprint x.key) (fingerprint key)) _ e in
    cases (same x.key key)
    (λ t.
    let z = eq-eqb (fingerprint x.key) (fingerprint key) (ap fingerprint (same_true x.key key t)) in
    let f : false ≡ true = sym n.0 ∙ z in
    absurd (let y : ◌≡◌ {A = ℕ} 0 1 = cc in omega arith))
    (λ t. rw t (not-among key (i + 1) ws n.1))

pub distinct-unprinted : (r : List ℕ) (ws : List Row) → (num r 0 2 ≡ 0 → ⊥) → print_among (row_print (row_of r)) (map row_print ws) ≡ false → distinct ws ≡ distinct (row_of r ∷ ws)
distinct-unprinted r ws u e =
    let m = not-among (key_of r) 0 ws (ap (λ (p : ℕ). print_among p (map row_print ws)) (sym (print-used r u)) ∙ e) in
    sym (ap (λ (t : Bool). t && distinct ws) m) ∙ distinct-used r ws u

-- one row alone has no other's key
alone : (w : Row) → distinct (w ∷ []) ≡ true
alone None = refl
alone (Some x) = refl

pub few-distinct : (rs : List (List ℕ)) → length rs < 2 → distinct (map row_of rs) ≡ true
few-distinct [] h = refl
few-distinct (r ∷ []) h = alone (row_of r)
few-distinct (r ∷ q ∷ rs) h = absurd (let z : ⊥ = omega arith in z)

-- the fingerprints of some rows
abbrev pub prints_of : List (List ℕ) → List ℕ
prints_of rs = map row_print (map row_of rs)

-- before a row is seen
pub none-seen : (rs : List (List ℕ))
    → (length {A = ℕ} (replicate 256 0) ≡ 256)
    × ((replicate {A = ℕ} 1024 0 ≡ seen_in (prints_of (drop (length rs) rs)))
    × ((take (length rs - length rs) (drop (length rs) (replicate {A = ℕ} 256 0)) ≡ prints_of (drop (length rs) rs)) × (true ≡ distinct (map row_of (drop (length rs) rs)))))
unfolding seen_in
none-seen rs =
    let n : length rs - length rs ≡ 0 = omega arith in
    (length-replicate {A = ℕ} 256 0, (rw (drop-length rs) refl, (rw (drop-length rs, n) refl, rw (drop-length rs) refl)))

-- ---- one more row seen
module _ (rs : List (List ℕ)) (i : ℕ) (h : i < length rs) where
  abbrev row : List ℕ
  row = get_or rs i []

  abbrev later : List (List ℕ)
  later = drop (i + 1) rs

  one_more : drop i rs ≡ row ∷ later
  one_more = drop_more rs i [] h

  pub prints-next : (prints : List ℕ) (p : ℕ) → i < length prints → p ≡ row_print (row_of row)
      → take (length rs - (i + 1)) (drop (i + 1) prints) ≡ prints_of later
      → take (length rs - i) (drop i (set prints i p)) ≡ prints_of (drop i rs)
  prints-next prints p l e f =
      let n : length rs - i ≡ suc (length rs - (i + 1)) = omega arith in
      (λ j. take (n j) (drop-set prints i p l j)) ∙ (λ j. e j ∷ f j) ∙ sym (ap prints_of one_more)

  pub apart_next : (apart r : Bool) → apart ≡ distinct (map row_of later)
      → (r && distinct (map row_of later)) ≡ distinct (row_of row ∷ map row_of later)
      → (apart && r) ≡ distinct (map row_of (drop i rs))
  apart_next apart r e f = and_comm apart r ∙ ap (λ (t : Bool). r && t) e ∙ f ∙ sym (ap (λ (l : List (List ℕ)). distinct (map row_of l)) one_more)

  -- the row's bucket noted, and what it says of a row that no later one noted it
  module _ (seen : List ℕ) (p b : ℕ) (e : b ≡ bucket_of p) (f : p ≡ row_print (row_of row)) (g : seen ≡ seen_in (prints_of later)) where
    pub seen_next : set seen b 1 ≡ seen_in (prints_of (drop i rs))
    unfolding seen_in
    seen_next = (λ j. set (g j) ((e ∙ ap bucket_of f) j) 1) ∙ sym (ap (λ (l : List (List ℕ)). seen_in (prints_of l)) one_more)

    pub apart-unseen : get_or seen b 0 ≡ 0 → distinct (map row_of later) ≡ distinct (map row_of (drop i rs))
    apart-unseen z =
        let none : print_among (row_print (row_of row)) (prints_of later) ≡ false =
        unseen (row_print (row_of row)) _ ((λ j. get_or (sym g j) (sym (e ∙ ap bucket_of f) j) 0) ∙ z) in
        cases (eqb (num row 0 2) 0)
        (λ t. distinct-free row (map row_of later) (eqb-true (num row 0 2) 0 t))
        (λ t. distinct-unprinted row (map row_of later) (eqb-false (num row 0 2) 0 t) none)
        ∙ sym (ap (λ (l : List (List ℕ)). distinct (map row_of l)) one_more)
