-- Whether a row may stand right after another, by their kinds and keys as bytes.
use Prim.Native.Nat.{ℕ}
use mathlib.Core.Path.{◌≡◌, refl, sym, ap, ◌∙◌}
use mathlib.Core.Bool.{true, false}
use mathlib.Core.List.{List}
use Rattle.octets.specs.BigEndian.{num}
use Rattle.std.specs.declared.cmp.Ordering.{Ordering}
use Rattle.std.specs.declared.cmp.Ordering.TheVariants.{Less, Equal, Greater}
use Rattle.std.specs.Ordering.{is_lt}
use Rattle.keys.specs.Keys.{side_of, by_side}
use Rattle.rows.specs.Row.{key_of, row_of}
use Rattle.rows.proofs.OneRow.{row-free, row-used}
use Rattle.ordered.specs.Order.{follows}

below-side : (o : Ordering) → is_lt o ≡ by_side o true false false
below-side Less = refl
below-side Equal = refl
below-side Greater = refl

module _ (v w : List ℕ) where
  pub free-follows : num w 0 2 ≡ 0 → follows (row_of v) (row_of w) ≡ true
  free-follows e = rw (row-free w e)

  module _ (u : num w 0 2 ≡ 0 → ⊥) where
    pub used-after-free : num v 0 2 ≡ 0 → follows (row_of v) (row_of w) ≡ false
    used-after-free e = rw (row-free v e, row-used w u)

    pub used-follows : (num v 0 2 ≡ 0 → ⊥) → (o : Ordering) → o ≡ side_of (key_of v) (key_of w)
        → follows (row_of v) (row_of w) ≡ is_lt o
    used-follows n o e = rw (row-used v n, row-used w u) (ap (λ (d : Ordering). by_side d true false false) (sym e)) ∙ sym (below-side o)
