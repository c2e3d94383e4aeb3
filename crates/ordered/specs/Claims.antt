-- What is claimed of rows in key order. Proved in proofs/.
use Rattle.std.specs.Prelude.{ℕ, ◌≡◌, true, List}
use Rattle.engine.specs.Engine.{Laws}
use Rattle.rows.specs.Row.{Row}
use Rattle.rows.specs.Table.{Table, fresh}
use Rattle.plain.specs.Plain.{Distinct}
use Rattle.plain.specs.Claims.{Good}
use Rattle.ordered.specs.Order.{ordered}
use Rattle.ordered.specs.Ordered.{ordered_engine}

-- a good table whose rows are in order
pub record GoodOrdered (t : Table) : Type 0 where
  pub good : Good t
  pub order : ordered t.rows ≡ true

-- no two rows in order have one key, so that what holds of the plain engine's rows holds of them
abbrev pub OrderedDistinct : Type 0
OrderedDistinct = (r : List Row) → ordered r ≡ true → Distinct r

-- a store and a purge leave rows in order, and what is found, the room and the number of rows are what any engine's are
abbrev pub OrderedLaws : Type 0
OrderedLaws = Laws ordered_engine

-- a fresh table is in order
abbrev pub FreshOrdered : Type 0
FreshOrdered = (n state mode vbucket : ℕ) → ordered (fresh n state mode vbucket).rows ≡ true
