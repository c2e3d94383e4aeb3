-- For the code alone: what reading shows of a lookup, and what making a table active answers by the damage test and the head.
use Rattle.std.specs.Prelude.{ℕ, cond, Option, Some, None, ℤ}
use Rattle.document.specs.declared.Head.{Head}
use Rattle.numbers.specs.Expiry.{seconds_left, is_past, seconds_in}
use Rattle.document.specs.Stored.{is_document, numbers_of}
use Rattle.table.specs.declared.Lookup.{Lookup}
use Rattle.owning.specs.Owner.{Activated, NotActivated as Damaged, Dead, Active, Document, Missing, Expired, Live, is_dead}

abbrev pub left_by : Lookup → Option ℤ → Document
left_by l left = cond (is_past left) (Expired (seconds_in left)) (Live (numbers_of l.stored) left l.at l.len)

unfoldable pub shown_by : ℕ → Lookup → Document
shown_by clock l = cond (is_document l.stored) (left_by l (seconds_left (numbers_of l.stored).expiry clock)) Missing

abbrev pub activation_of : Option Head → Activated
activation_of None = Damaged
activation_of (Some h) = cond (is_dead h) Dead Active
