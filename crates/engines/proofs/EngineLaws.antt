-- Each engine by itself meets the laws; so both do, whichever a call is for.
use Prim.Native.Nat.{ℕ}
use mathlib.Core.Path.{◌≡◌, refl}
use mathlib.Core.List.{List}
use Rattle.std.specs.Prelude.{Some}
use Rattle.document.specs.Documents.{Key, Doc}
use Rattle.engine.specs.declared.Config.{Config}
use Rattle.engine.specs.declared.EngineKind.{EngineKind}
use Rattle.engine.specs.declared.EngineKind.TheVariants.{Plain, Ordered}
use Rattle.engine.specs.Engine.{Laws}
use Rattle.engine.proofs.Alike.{laws-suffice}
use Rattle.rows.specs.Row.{Row}
use Rattle.rows.specs.Table.{fresh}
use Rattle.rows.specs.Find.{find_row}
use Rattle.plain.specs.Plain.{Distinct, replace}
use Rattle.plain.proofs.PlainLaws.{plain-laws}
use Rattle.ordered.proofs.OrderLaws.{ordered-each, ordered-distinct, fresh-ordered}
use Rattle.ordered.proofs.InsertLaws.{insert-replaces}
use Rattle.ordered.proofs.OrderedLaws.{ordered-laws}
use Rattle.engines.specs.Engines.{rows_kept, put_by, engine_in, engine_of}
use Rattle.engines.specs.Claims.{EnginesLaws, EnginesAlike, FreshAlikeBy}

laws-in : (k : EngineKind) → Laws (engine_in k)
laws-in Plain = plain-laws
laws-in Ordered = ordered-laws

pub engines-laws : EnginesLaws
engines-laws config = laws-in config.engine

pub engines-alike : EnginesAlike
engines-alike config other = laws-suffice (engine_of config) (engine_of other) (engines-laws config) (engines-laws other)

-- no two rows have one key, whichever rule they keep
pub kept-distinct : (k : EngineKind) (r : List Row) → rows_kept k r → Distinct r
kept-distinct Plain r g = g
kept-distinct Ordered r g = ordered-distinct r g

-- a document stored for a key that has a row takes that row's place
pub put-replaces : (config : Config) (r : List Row) (k : Key) (d e : Doc) → (engine_of config).Good r → find_row r k ≡ Some e → (engine_of config).put r k d ≡ replace r k d
put-replaces config r k d e = put-over config.engine
  where
    put-over : (n : EngineKind) → rows_kept n r → find_row r k ≡ Some e → put_by n r k d ≡ replace r k d
    put-over Plain g f = rw f
    put-over Ordered g f = insert-replaces k d r e (ordered-each r g) f

pub fresh_kept : (k : EngineKind) (n state mode vbucket : ℕ) → rows_kept k (fresh n state mode vbucket).rows
fresh_kept Plain n state mode vbucket = ordered-distinct (fresh n state mode vbucket).rows (fresh-ordered n state mode vbucket)
fresh_kept Ordered n state mode vbucket = fresh-ordered n state mode vbucket

pub fresh-alike-by : FreshAlikeBy
fresh-alike-by config other n state mode vbucket = record {
  good = fresh_kept config.engine n state mode vbucket;
  other-good = fresh_kept other.engine n state mode vbucket;
  find = λ k. refl;
  size = refl;
}
