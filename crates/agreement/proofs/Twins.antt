-- Two tables that can't be told apart but by the places of their rows: the same head, and rows that hold the same documents.
use Prim.Native.Nat.{ℕ, ◌+◌, ◌*◌, ◌^◌, ◌≤◌, ◌<◌}
use mathlib.Core.Path.{◌≡◌, refl, sym, ap, subst, ◌∙◌}
use mathlib.Core.List.{List}
use lib.ListN.{length}
use Rattle.numbers.specs.Expiry.{later}
use Rattle.document.specs.declared.Head.{Head}
use Rattle.document.specs.Head.{at_clock}
use Rattle.engine.specs.declared.Config.{Config}
use Rattle.engine.specs.Alike.{Alike}
use Rattle.rows.specs.Table.{Table, table_at, clock_at, table_bytes, fresh}
use Rattle.rows.specs.Find.{find_row, free_rows}
use Rattle.plain.proofs.TableLaws.{table-length}
use Rattle.engines.specs.Engines.{engine_of}
use Rattle.engines.specs.Claims.{GoodBy}
use Rattle.engines.proofs.EngineLaws.{engines-alike, fresh-alike-by}
use Rattle.engines.proofs.Tables.{good-sound-by, fresh-good-by, clock-good-by}
use Rattle.agreement.specs.Agreement.{SameTable}

pub record Twin (config other : Config) (t u : Table) : Type 0 where
  pub good : GoodBy config t
  pub other-good : GoodBy other u
  -- calls on them are made by one rule of force
  pub rule : config.forcing ≡ other.forcing
  pub head : t.head ≡ u.head
  pub alike : Alike (engine_of config) (engine_of other) t.rows u.rows

-- the memory of two such tables
pub record Twins (config other : Config) (b c : List ℕ) : Type 0 where
  pub table : Table
  pub other-table : Table
  pub bytes : b ≡ table_bytes table
  pub other-bytes : c ≡ table_bytes other-table
  pub twin : Twin config other table other-table

module _ (config other : Config) (t u : Table) (w : Twin config other t u) where
  pub twins : Twins config other (table_bytes t) (table_bytes u)
  twins = record { table = t; other-table = u; bytes = refl; other-bytes = refl; twin = w }

  pub free-alike : free_rows t.rows ≡ free_rows u.rows
  free-alike = (engines-alike config other).free t.rows u.rows w.alike

  pub length-alike : length (table_bytes t) ≡ length (table_bytes u)
  length-alike = table-length t w.good.good ∙ ap (λ (n : ℕ). 16 + n * 1312) w.alike.size ∙ sym (table-length u w.other-good.good)

  -- at a call's clock
  pub clock-alike : (clock : ℕ) → clock_at t clock ≡ clock_at u clock
  clock-alike clock = ap (λ (h : Head). later h.clock clock) w.head

  pub twin-at : (clock : ℕ) → clock < 2 ^ 32 → Twin config other (table_at t clock) (table_at u clock)
  twin-at clock c = record {
    good = clock-good-by config t clock w.good c;
    other-good = clock-good-by other u clock w.other-good c;
    rule = w.rule;
    head = ap (λ (h : Head). at_clock h clock) w.head;
    alike = w.alike;
  }

  same_bytes : SameTable config other (table_bytes t) (table_bytes u)
  same_bytes =
      let (sound, back) = good-sound-by config t w.good in
      let (other-sound, other-back) = good-sound-by other u w.other-good in
      record {
        documents = λ k. ap (λ (x : Table). find_row x.rows k) back ∙ w.alike.find k ∙ sym (ap (λ (x : Table). find_row x.rows k) other-back);
        head = ap (λ (x : Table). x.head) back ∙ w.head ∙ sym (ap (λ (x : Table). x.head) other-back);
        size = length-alike;
        free = ap (λ (x : Table). free_rows x.rows) back ∙ free-alike ∙ sym (ap (λ (x : Table). free_rows x.rows) other-back);
        undamaged = sound;
        other-undamaged = other-sound;
      }

-- what holds of the memory of all twin tables
pub by-tables : (config other : Config) (b c : List ℕ) → Twins config other b c → (P : List ℕ → List ℕ → Type 0)
    → ((t u : Table) → Twin config other t u → P (table_bytes t) (table_bytes u)) → P b c
by-tables config other b c w P p =
    subst (λ (x : List ℕ). P x c) (sym w.bytes) (subst (P (table_bytes w.table)) (sym w.other-bytes) (p w.table w.other-table w.twin))

pub same-table : (config other : Config) (b c : List ℕ) → Twins config other b c → SameTable config other b c
same-table config other b c w = by-tables config other b c w (SameTable config other) (same_bytes config other)

-- fresh tables made alike
pub fresh-twin : (config other : Config) → config.forcing ≡ other.forcing → (n state mode vbucket : ℕ) → 1 ≤ n → n ≤ 256 → (1 ≤ state) × (state ≤ 4) → (1 ≤ mode) × (mode ≤ 2) → vbucket < 65536
    → Twin config other (fresh n state mode vbucket) (fresh n state mode vbucket)
fresh-twin config other rule n state mode vbucket least most s m v = record {
  good = fresh-good-by config n state mode vbucket least most s m v;
  other-good = fresh-good-by other n state mode vbucket least most s m v;
  rule = rule;
  head = refl;
  alike = fresh-alike-by config other n state mode vbucket;
}
