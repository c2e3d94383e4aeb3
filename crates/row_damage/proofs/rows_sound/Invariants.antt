use mathlib.Core.Path.{◌≡◌}
use mathlib.Core.Bool.{◌&&◌}
use mathlib.Core.List.{map}
use Rattle.rows.specs.Row.{row_of}
use Rattle.rows.specs.RowRules.{all_sound}
use Rattle.row_damage.specs.Walk.{in_order}
use Rattle.row_damage.proofs.Walking.{left_sound}
use Rattle.row_damage.proofs.rows_sound.Given as goal

abbrev pub invariant-loop-i : goal.invariant-loop-i
invariant-loop-i l = (all_sound l.mark l.rows && in_order l.keyed (map row_of l.rows)) ≡ left_sound l.rows l.mark l.keyed l.i
