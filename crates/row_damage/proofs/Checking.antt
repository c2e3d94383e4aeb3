-- The walk's answer: part by part, and what it says.
use Prim.Native.Nat.{ℕ}
use mathlib.Core.Path.{◌≡◌, sym, ap}
use mathlib.Core.Bool.{Bool, true, false, ◌&&◌}
use mathlib.Core.List.{List, map}
use lib.ListN.{length, drop}
use Rattle.document.specs.declared.Head.{Head}
use Rattle.std.specs.Prelude.{Some, None}
use Rattle.rows.specs.Row.{row_of}
use Rattle.rows.specs.Table.{head_of, chunks, row_count}
use Rattle.rows.specs.RowRules.{size_ok, head_ok, all_sound}
use Rattle.plain.proofs.Checks.{tells-damaged, tells-sound}
use Rattle.row_damage.specs.Walk.{in_order, rows_ok, checked_rows}

module _ (keyed : Bool) (b : List ℕ) where
  -- with the rows and the header read before
  abbrev pub ok_with : ℕ → List (List ℕ) → Head → Bool
  ok_with n rs h = size_ok (length b) n && (head_ok h && (all_sound h.mark.0 rs && in_order keyed (map row_of rs)))

  pub rows-ok-is : (n : ℕ) (rs : List (List ℕ)) (h : Head) → n ≡ row_count b → rs ≡ chunks (row_count b) (drop 16 b) → h ≡ head_of b → rows_ok keyed b ≡ ok_with n rs h
  unfolding rows_ok
  rows-ok-is n rs h e g f = sym (λ i. ok_with (e i) (g i) (f i))

  pub damaged-rows : rows_ok keyed b ≡ false → checked_rows keyed b ≡ None
  unfolding checked_rows
  damaged-rows e = rw e

  pub sound-rows : (h : Head) → h ≡ head_of b → rows_ok keyed b ≡ true → checked_rows keyed b ≡ Some h
  unfolding checked_rows
  sound-rows h f e = rw e (ap Some (sym f))

  pub rows-damaged : checked_rows keyed b ≡ None → rows_ok keyed b ≡ false
  unfolding checked_rows
  rows-damaged e = tells-damaged (rows_ok keyed b) (head_of b) e

  pub rows-sound : (h : Head) → checked_rows keyed b ≡ Some h → (rows_ok keyed b ≡ true) × (h ≡ head_of b)
  unfolding checked_rows
  rows-sound h e = tells-sound (rows_ok keyed b) (head_of b) h e
