-- The walk over a table's rows: what is left to ask of the rows not yet seen, and one row of them.
use native.Mathlib.Omega.{arith}
use Prim.Native.Nat.{ℕ, ◌+◌, ◌-◌, ◌<◌}
use mathlib.Core.Path.{◌≡◌, refl, sym, ap, ◌∙◌}
use mathlib.Core.Bool.{Bool, true, false, ◌&&◌, cond}
use mathlib.Core.List.{List, [], ◌∷◌, map}
use lib.Dec.{ltb}
use lib.ListN.{length, drop, get_or}
use Rattle.std.proofs.lemmas.List.{at_drop_more}
use borrow.Author.Tests.{lt-ltb}
use Rattle.rows.specs.Row.{Row, row_of}
use Rattle.rows.specs.RowRules.{row_sound, all_sound}
use Rattle.ordered.specs.Order.{follows, ordered_from, ordered}

-- the order of the rows not yet seen, after a row where one was seen
abbrev order_left : Bool → Bool → Row → List Row → Bool
order_left false seen w ws = true
order_left true false w ws = ordered ws
order_left true true w ws = ordered_from w ws

order-step : (keyed seen : Bool) (w v : Row) (ws : List Row)
    → order_left keyed seen w (v ∷ ws) ≡ (cond (keyed && seen) (follows w v) true && order_left keyed true v ws)
order-step false seen w v ws = refl
order-step true false w v ws = refl
order-step true true w v ws = refl

module _ (rs : List (List ℕ)) (mark : ℕ) (keyed : Bool) where
  -- what is left to ask where the rows before a place were seen
  abbrev pub left_sound : ℕ → Bool
  left_sound i = all_sound mark (drop i rs) && order_left keyed (ltb 0 i) (row_of (get_or rs (i - 1) [])) (map row_of (drop i rs))

  module _ (i : ℕ) where
    abbrev row : List ℕ
    row = get_or rs i []

    abbrev before : Row
    before = row_of (get_or rs (i - 1) [])

    -- what is asked of the row's place, and of the rows after it
    abbrev pub stands : Bool
    stands = cond (keyed && ltb 0 i) (follows before (row_of row)) true

    abbrev later : List (List ℕ)
    later = drop (i + 1) rs

    abbrev later_order : Bool
    later_order = order_left keyed true (row_of row) (map row_of later)

    module _ (h : i < length rs) where
      one_left : left_sound i ≡ ((row_sound mark row && all_sound mark later) && (stands && later_order))
      one_left =
          at_drop_more (λ (ws : List (List ℕ)). all_sound mark ws && order_left keyed (ltb 0 i) before (map row_of ws)) rs i [] h
          ∙ ap (λ (t : Bool). (row_sound mark row && all_sound mark later) && t) (order-step keyed (ltb 0 i) before (row_of row) (map row_of later))

      pub row-passed : row_sound mark row ≡ true → stands ≡ true → left_sound i ≡ left_sound (i + 1)
      row-passed e f =
          let a : i + 1 - 1 ≡ i = omega arith in
          let l : ltb 0 (i + 1) ≡ true = lt-ltb 0 (i + 1) (omega arith) in
          one_left
          ∙ (λ j. (e j && all_sound mark later) && (f j && later_order))
          ∙ sym (λ j. all_sound mark later && order_left keyed (l j) (row_of (get_or rs (a j) [])) (map row_of later))
