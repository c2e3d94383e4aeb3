use native.Mathlib.Omega.{arith}
use mathlib.Core.Path.{◌≡◌, ◌∙◌}
use mathlib.Core.Bool.{true}
use mathlib.Core.List.{[]}
use lib.ListN.{get_or}
use borrow.Author.Tests.{lt-ltb, le-ltb}
use Rattle.std.proofs.lemmas.Bool.Decides.{nat_tests}
use Rattle.rows.specs.RowRules.{row_sound}
use Rattle.row_damage.proofs.Walking.{stands, row-passed}
use Rattle.row_damage.proofs.rows_sound.Goals as goal
use Rattle.row_damage.proofs.rows_sound.Goals.{else-keyed-via-then-keyed+then-i-gt0+else-not-row_follows, else-keyed-via-then-keyed+else-i-gt0, else-keyed-via-else-keyed}

pub loop-i-preserved : goal.loop-i-preserved
loop-i-preserved c =
    let a = c.args in
    let i = c.loop-i.i in
    let sound : row_sound a.mark (get_or a.rows.now i []) ≡ true =
    grind (arith, nat_tests, c.row_sound.ensures, c.if-not-row_sound.false, c.loop-i-test.true) in
    let g : stands a.rows.now a.mark a.keyed i ≡ true =
    elim c.else-keyed.branch [
      | else-keyed-via-then-keyed+then-i-gt0+else-not-row_follows w ↦
          rw (w.if-keyed.true, lt-ltb 0 i w.if-i-gt0.true) (grind (arith, nat_tests, w.row_follows.ensures, w.if-not-row_follows.false, w.if-keyed.true))
      | else-keyed-via-then-keyed+else-i-gt0 w ↦ rw (w.if-keyed.true, le-ltb 0 i w.if-i-gt0.false)
      | else-keyed-via-else-keyed w ↦ rw w.if-keyed.false
    ] in
    c.loop-i.invariant ∙ row-passed a.rows.now a.mark a.keyed i c.loop-i-test.true sound g
