-- The damage test: one walk for both engines, after which plain rows' keys are compared.
use Prim.Native.Nat.{ℕ}
use mathlib.Core.Path.{◌≡◌, refl, sym, ap, ◌∙◌}
use mathlib.Core.Bool.{Bool, true, false, ◌&&◌, ◌||◌}
use mathlib.Core.List.{List}
use lib.Dec.{leb}
use lib.ListN.{length, drop}
use borrow.Author.Tests.{le-leb}
use Rattle.octets.proofs.Choices.{cases, both}
use Rattle.document.specs.declared.Head.{Head}
use Rattle.std.specs.Prelude.{Some, None}
use Rattle.engine.specs.declared.Config.{Config}
use Rattle.engine.specs.declared.EngineKind.{EngineKind}
use Rattle.engine.specs.declared.EngineKind.TheVariants.{Plain, Ordered}
use Rattle.rows.specs.Table.{head_of, chunks, row_count, rows_of}
use Rattle.rows.specs.RowRules.{size_ok, head_ok, all_sound}
use Rattle.rows.proofs.OneRow.{size-most}
use Rattle.plain.specs.Damage.{distinct, sound}
use Rattle.ordered.specs.Damage.{sound_ordered}
use Rattle.plain_damage.specs.Distinct.{keys_distinct}
use Rattle.row_damage.specs.Walk.{rows_ok, checked_rows}
use Rattle.row_damage.proofs.Checking.{rows-damaged, rows-sound}
use Rattle.engines.specs.Damage.{sound_in, sound_by, checked_by}
use Rattle.table.specs.Calls.{is_ordered}

-- what the walk passes has no more rows than a table
few-rows : (keyed : Bool) (b : List ℕ) → rows_ok keyed b ≡ true → leb (row_count b) 256 ≡ true
unfolding rows_ok
few-rows keyed b e = le-leb (row_count b) 256 (size-most (length b) (row_count b) (both (size_ok (length b) (row_count b)) _ e).0)

last_apart : (x y z d : Bool) → (x && (y && (z && d))) ≡ ((x && (y && (z && true))) && d)
last_apart false y z d = refl
last_apart true false z d = refl
last_apart true true false d = refl
last_apart true true true d = refl

plain-sound : (b : List ℕ) → sound b ≡ (rows_ok false b && distinct (rows_of (row_count b) (drop 16 b)))
unfolding sound rows_ok
plain-sound b =
    last_apart (size_ok (length b) (row_count b)) (head_ok (head_of b)) (all_sound (head_of b).mark.0 (chunks (row_count b) (drop 16 b)))
    (distinct (rows_of (row_count b) (drop 16 b)))

ordered-sound : (b : List ℕ) → sound_ordered b ≡ rows_ok true b
unfolding sound_ordered rows_ok
ordered-sound b = refl

-- the walk, and then the keys where it didn't compare them
sound-is : (k : EngineKind) (b : List ℕ) → sound_in k b ≡ (rows_ok (is_ordered k) b && (is_ordered k || keys_distinct b))
unfolding keys_distinct
sound-is Plain b = plain-sound b ∙ cases (rows_ok false b) (λ t. rw (t, few-rows false b t)) (λ f. rw f)
sound-is Ordered b = ordered-sound b ∙ cases (rows_ok true b) (λ t. rw t) (λ f. rw f)

module _ (config : Config) (b : List ℕ) (keyed : Bool) (k : keyed ≡ is_ordered config.engine) where
  by-walk : sound_by config b ≡ (rows_ok keyed b && (keyed || keys_distinct b))
  unfolding sound_by
  by-walk = sound-is config.engine b ∙ ap (λ (x : Bool). rows_ok x b && (x || keys_distinct b)) (sym k)

  pub walk-damaged : checked_rows keyed b ≡ None → None ≡ checked_by config b
  unfolding checked_by
  walk-damaged e = rw (by-walk, rows-damaged keyed b e)

  -- the walk found no damage
  module _ (h : Head) (e : checked_rows keyed b ≡ Some h) where
    pub keyed-sound : keyed ≡ true → Some h ≡ checked_by config b
    unfolding checked_by
    keyed-sound t = let w = rows-sound keyed b h e in rw (by-walk, w.0, t) (ap Some w.1)

    pub keys-equal : keyed ≡ false → keys_distinct b ≡ false → None ≡ checked_by config b
    unfolding checked_by
    keys-equal t d = rw (by-walk, (rows-sound keyed b h e).0, t, d)

    pub keys-differ : keyed ≡ false → keys_distinct b ≡ true → Some h ≡ checked_by config b
    unfolding checked_by
    keys-differ t d = let w = rows-sound keyed b h e in rw (by-walk, w.0, t, d) (ap Some w.1)
