-- Order 2 on bytes: the clock that a table keeps and the one that its memory has are the same, and a table at a call's clock is its memory with that clock's four bytes.
use Prim.Native.Nat.{ℕ, ◌^◌, ◌<◌, max}
use native.Mathlib.Omega.{arith}
use mathlib.Core.Path.{◌≡◌, refl, sym, ap, subst, ◌∙◌}
use mathlib.Core.Bool.{true}
use mathlib.Core.List.{List}
use Rattle.engine.specs.declared.Config.{Config}
use Rattle.octets.specs.Parts.{Bytes, pasted, written}
use Rattle.octets.specs.BigEndian.{bytes_of}
use Rattle.octets.proofs.Lists.{written-fits}
use Rattle.document.specs.Documents.{Key}
use Rattle.rows.specs.Table.{Table, head_of, table_of, table_at, clock_at, table_bytes}
use Rattle.rows.specs.Find.{find_row}
use Rattle.engines.specs.Damage.{sound_by}
use Rattle.engines.specs.Claims.{GoodBy}
use Rattle.engines.proofs.Tables.{sound-good-by, good-sound-by, clock-put, clock-good-by}
use Rattle.plain.proofs.TableLaws.{table-length}
use Rattle.serving.specs.Serve.{Served, Refused, Done}
use Rattle.promises.specs.Merge.{doc_at}
use Rattle.promises.specs.Kept.{kept_at, later_at, clock_raised, kept_by}

-- ---- the kept clock
pub kept-clock : (b : List ℕ) → (table_of b).head.clock ≡ kept_at b
unfolding table_of head_of
kept-clock b = refl

pub later-clock : (b : List ℕ) (clock : ℕ) → clock_at (table_of b) clock ≡ later_at b clock
later-clock b clock = ap (λ (n : ℕ). max n clock) (kept-clock b)

-- what holds at the later clock of the memory holds at that of its table
pub at-later {ℓ} : (P : ℕ → Type ℓ) (b : List ℕ) (clock : ℕ) → P (later_at b clock) → P (clock_at (table_of b) clock)
at-later P b clock p = subst P (sym (later-clock b clock)) p

-- ---- a good table
module _ (config : Config) (t : Table) (g : GoodBy config t) where
  pub kept-good : kept_at (table_bytes t) ≡ t.head.clock
  kept-good = sym (kept-clock (table_bytes t)) ∙ ap (λ (x : Table). x.head.clock) (good-sound-by config t g).1

  module _ (clock : ℕ) where
    pub raised-good : table_bytes (table_at t clock) ≡ clock_raised (table_bytes t) clock
    unfolding pasted bytes_of
    raised-good =
        sym (clock-put t clock)
        ∙ ap (λ (n : ℕ). written (table_bytes t) 4 (bytes_of 4 (max n clock))) (sym kept-good)
        ∙ written-fits (table_bytes t) 4 (bytes_of 4 (later_at (table_bytes t) clock)) (omega (arith, table-length t g.good))

    -- nothing of its documents is seen in the clock's bytes
    pub raised-docs : clock < 2 ^ 32 → (k : Key) → doc_at (clock_raised (table_bytes t) clock) k ≡ doc_at (table_bytes t) k
    raised-docs c k =
        ap (λ (m : List ℕ). doc_at m k) (sym raised-good)
        ∙ ap (λ (x : Table). find_row x.rows k) (good-sound-by config (table_at t clock) (clock-good-by config t clock g c)).1
        ∙ ap (λ (x : Table). find_row x.rows k) (sym (good-sound-by config t g).1)

    pub kept-docs : (a : Served) → clock < 2 ^ 32 → (k : Key) → doc_at (kept_by a (table_bytes t) clock) k ≡ doc_at (table_bytes t) k
    kept-docs (Refused n need) c k = refl
    kept-docs (Done status used len) c k = raised-docs c k

-- ---- sound memory
module _ (config : Config) (b : List ℕ) (clock : ℕ) (y : Bytes b) (e : sound_by config b ≡ true) where
  pub raised-bytes : table_bytes (table_at (table_of b) clock) ≡ clock_raised b clock
  raised-bytes = let (back, good) = sound-good-by config b y e in raised-good config (table_of b) good clock ∙ ap (λ (m : List ℕ). clock_raised m clock) back

  pub good-later : clock < 2 ^ 32 → GoodBy config (table_at (table_of b) clock)
  good-later c = clock-good-by config (table_of b) clock (sound-good-by config b y e).1 c
