-- The engine of rows in key order. A lookup, room and the documents mean what they mean in the plain engine.
use Rattle.std.specs.Prelude.{◌≡◌, true, List, length}
use Rattle.engine.specs.Engine.{Engine}
use Rattle.rows.specs.Row.{Row}
use Rattle.rows.specs.Find.{find_row, free_rows}
use Rattle.plain.specs.Plain.{used_rows}
use Rattle.ordered.specs.Order.{ordered}
use Rattle.ordered.specs.Insert.{insert_row}
use Rattle.ordered.specs.Purge.{purge_ordered}

abbrev pub ordered_engine : Engine
ordered_engine = record {
  Rows = List Row;
  Good = λ r. ordered r ≡ true;
  find = find_row;
  free = free_rows;
  put = insert_row;
  purge = purge_ordered;
  size = length;
  docs = used_rows;
}
