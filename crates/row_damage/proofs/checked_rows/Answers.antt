use mathlib.Core.Path.{◌≡◌, refl, sym, ◌∙◌}
use mathlib.Core.Bool.{true, ◌&&◌}
use mathlib.Core.List.{List, map}
use Rattle.document.specs.declared.Head.{Head}
use Rattle.rows.specs.Row.{row_of}
use Prim.Native.Nat.{ℕ}
use lib.ListN.{length}
use lib.Seq.{length-take-le}
use native.Mathlib.Omega.{arith}
use Rattle.rows.specs.Table.{head_of}
use Rattle.rows.specs.RowRules.{size_ok, head_ok, all_sound}
use Rattle.rows.proofs.OneRow.{size_is}
use Rattle.rows.proofs.Heads.{head_first}
use Rattle.row_damage.specs.Walk.{in_order, rows_ok}
use Rattle.row_damage.proofs.Checking.{rows-ok-is, damaged-rows, sound-rows}
use Rattle.row_damage.proofs.checked_rows.Goals as goal
use Rattle.row_damage.proofs.checked_rows.Goals.{After-head_of-h, Else-not-size_ok}

-- what is known after the size, and what is left to test after the head
size : (c : Else-not-size_ok) → size_ok (length c.args.s.now) (length c.all-rows.result.now) ≡ true
size c = sym c.size_ok.ensures ∙ c.if-not-size_ok.false

module _ (c : After-head_of-h) where
  abbrev rs : List (List ℕ)
  rs = c.all-rows.result.now

  abbrev h : Head
  h = c.head_of-h.result

  head : h ≡ head_of c.args.s.now
  head = c.head_of-h.ensures ∙ head_first c.args.s.now

  left : rows_ok c.args.keyed c.args.s.now ≡ (head_ok h && (all_sound h.mark.0 rs && in_order c.args.keyed (map row_of rs)))
  left = rows-ok-is c.args.keyed c.args.s.now (length rs) rs h c.all-rows.ensures.1 c.all-rows.ensures.0 head ∙ rw (size (goal.at.After-head_of-h c).Else-not-size_ok)

pub returns-then-not-size_ok : goal.returns-then-not-size_ok
returns-then-not-size_ok c =
    let a = c.args in
    let f1 = sym c.size_ok.ensures ∙ c.if-not-size_ok.true in
    sym (damaged-rows a.keyed a.s.now (rows-ok-is a.keyed a.s.now _ c.all-rows.result.now (head_of a.s.now) c.all-rows.ensures.1 c.all-rows.ensures.0 refl ∙ rw f1))

pub slice_bounds-head_of-end : goal.slice_bounds-head_of-end
slice_bounds-head_of-end c = sym (length-take-le 16 c.args.s.now (omega (arith, size_is _ _ (size c))))

pub returns-then-not-head_ok : goal.returns-then-not-head_ok
returns-then-not-head_ok c =
    let f2 = sym c.head_ok.ensures ∙ c.if-not-head_ok.true in
    sym (damaged-rows _ _ (left (goal.at.returns-then-not-head_ok c).After-head_of-h ∙ rw f2))

pub returns-then-not-rows_sound : goal.returns-then-not-rows_sound
returns-then-not-rows_sound c =
    let f2 = sym c.head_ok.ensures ∙ c.if-not-head_ok.false in
    let f3 = sym c.rows_sound.ensures ∙ c.if-not-rows_sound.true in
    sym (damaged-rows _ _ (left (goal.at.returns-then-not-rows_sound c).After-head_of-h ∙ rw f2 f3))

pub returns : goal.returns
returns c =
    let f2 = sym c.head_ok.ensures ∙ c.if-not-head_ok.false in
    let f3 = sym c.rows_sound.ensures ∙ c.if-not-rows_sound.false in
    sym (sound-rows _ _ c.head_of-h.result (head (goal.at.returns c).After-head_of-h) (left (goal.at.returns c).After-head_of-h ∙ rw f2 f3))
