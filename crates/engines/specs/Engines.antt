-- Order 7: the engine that a call is for. A lookup, room and the documents are the same in both; they differ in how rows are kept.
use Rattle.std.specs.Prelude.{◌≡◌, Bool, true, List, length}
use Rattle.document.specs.Documents.{Key, Doc}
use Rattle.engine.specs.declared.Config.{Config}
use Rattle.engine.specs.declared.EngineKind.{EngineKind}
use Rattle.engine.specs.declared.EngineKind.TheVariants.{Plain, Ordered}
use Rattle.engine.specs.Engine.{Engine}
use Rattle.rows.specs.Row.{Row}
use Rattle.rows.specs.Find.{find_row, free_rows}
use Rattle.plain.specs.Plain.{Distinct, put_row, purge_rows, used_rows}
use Rattle.ordered.specs.Order.{ordered}
use Rattle.ordered.specs.Insert.{insert_row}
use Rattle.ordered.specs.Purge.{purge_ordered}

-- the rule that an engine's rows keep
abbrev pub rows_kept : EngineKind → List Row → Type 0
rows_kept Plain r = Distinct r
rows_kept Ordered r = ordered r ≡ true

abbrev pub put_by : EngineKind → List Row → Key → Doc → List Row
put_by Plain r k d = put_row r k d
put_by Ordered r k d = insert_row r k d

abbrev pub purge_by : EngineKind → List Row → (Doc → Bool) → List Row
purge_by Plain r p = purge_rows r p
purge_by Ordered r p = purge_ordered r p

abbrev pub engine_in : EngineKind → Engine
engine_in k = record {
  Rows = List Row;
  Good = rows_kept k;
  find = find_row;
  free = free_rows;
  put = put_by k;
  purge = purge_by k;
  size = length;
  docs = used_rows;
}

abbrev pub engine_of : Config → Engine
engine_of config = engine_in config.engine
