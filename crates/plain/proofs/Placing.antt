-- The place of a key's document, against the rows it is in.
use Prim.Native.Nat.{ℕ, ◌<◌}
use native.Mathlib.Omega.{arith}
use mathlib.Core.Path.{◌≡◌, sym, ap, ◌∙◌}
use mathlib.Core.Bool.{Bool, cond}
use mathlib.Core.Logic.{inl}
use mathlib.Core.List.{List}
use lib.Dec.{eqb}
use lib.ListN.{length}
use borrow.Author.Tests.{eqb-true, eqb-false, eq-eqb, ne_eqb}
use Rattle.octets.proofs.Choices.{cases, cond-elim}
use Rattle.document.specs.Documents.{Key}
use Rattle.engine.specs.declared.Place.TheVariants.{Over}
use Rattle.rows.specs.Row.{Row}
use Rattle.rows.specs.Good.{AllGood}
use Rattle.std.specs.Prelude.{Option, Some, None}
use Rattle.plain.specs.Lookup.{find_in, free_in, free_place, found_place, key_row, place_by}
use Rattle.plain.proofs.Places.{founds, nothing-find, find-place}
use Rattle.plain.proofs.TableLaws.{no_key}

not-over {ℓ} : {X : Type ℓ} (f : Option ℕ) (i : ℕ) → free_place f ≡ Over i → X
not-over (Some j) i e = let z : ◌≡◌ {A = ℕ} 0 1 = cc in absurd (omega arith)
not-over None i e = let z : ◌≡◌ {A = ℕ} 0 1 = cc in absurd (omega arith)

over-same : (j i : ℕ) → Over j ≡ Over i → j ≡ i
over-same j i e = cc

module _ (key : Key) (ws : List Row) where
  pub key-none : length key ≡ 0 → None ≡ key_row key ws
  unfolding key_row
  key-none e = rw (eq-eqb (length key) 0 e)

  pub key-there : (length key ≡ 0 → ⊥) → find_in key 0 ws ≡ key_row key ws
  unfolding key_row
  key-there n = rw (ne_eqb (length key) 0 n)

  -- the row that a document goes over is the key's
  pub over-found : (new : Bool) (i : ℕ) → place_by new key ws ≡ Over i → find_in key 0 ws ≡ Some i
  unfolding place_by key_row
  over-found new i e =
      cond-elim (eqb (length key) 0) None (find_in key 0 ws) (key_row key ws) (λ j. key_row key ws)
      (λ t z. not-over (cond new (free_in 0 ws) None) i (ap (λ (f : Option ℕ). found_place f (cond new (free_in 0 ws) None)) z ∙ e))
      (λ t z.
      let q = ap (λ (f : Option ℕ). found_place f (cond new (free_in 0 ws) None)) z ∙ e in
      founds (find_in key 0 ws)
      (λ j f. f ∙ ap Some (over-same j i (rw f at q)))
      (λ f. not-over (cond new (free_in 0 ws) None) i (rw f at q)))

  pub over_below : (new : Bool) (i : ℕ) → place_by new key ws ≡ Over i → i < length ws
  over_below new i e = (find-place key ws i (over-found new i e)).below

  -- in good rows an empty key isn't found anyway
  pub place-good : (mark : ℕ) (new : Bool) → AllGood mark ws → place_by new key ws ≡ found_place (find_in key 0 ws) (cond new (free_in 0 ws) None)
  unfolding place_by
  place-good mark new g =
      ap (λ (f : Option ℕ). found_place f (cond new (free_in 0 ws) None))
      (cases (eqb (length key) 0)
      (λ t. let z = eqb-true (length key) 0 t in sym (key-none z) ∙ sym (nothing-find key 0 ws (no_key mark ws key g (inl z))))
      (λ t. sym (key-there (eqb-false (length key) 0 t))))
