-- Places of rows against the plain engine: where a key is found, and that a put sets one row.
use native.Mathlib.Omega.{arith}
use mathlib.Core.Path.{◌≡◌, refl, sym, ap, ◌∙◌, subst}
use mathlib.Core.List.{List, [], ◌∷◌}
use Rattle.std.specs.Prelude.{Option, Some, None}
use Prim.Native.Nat.{ℕ, suc, ◌+◌, ◌<◌}
use lib.ListN.{length, get_or, set}
use Rattle.octets.specs.Compare.{same}
use Rattle.octets.proofs.Choices.{cases}
use Rattle.octets.proofs.Tests.{same_true}
use Rattle.document.specs.Documents.{Key, Doc, Entry}
use Rattle.rows.specs.Row.{Row}
use Rattle.plain.specs.Lookup.{find_in, free_in, place_in}
use Rattle.plain.specs.Plain.{replace, fill, put_row}
use Rattle.rows.specs.Find.{find_row, free_rows}
use Rattle.octets.proofs.Options.{none-some}

-- by what was found, with its equation
pub founds {ℓ} : {X : Type ℓ} (f : Option ℕ) → ((i : ℕ) → f ≡ Some i → X) → (f ≡ None → X) → X
founds (Some i) a n = a i refl
founds None a n = n refl

pub nothing-at {ℓ} : {X : Type ℓ} (i : ℕ) → None ≡ Some i → X
nothing-at i e = let z : ◌≡◌ {A = ℕ} 0 1 = cc in absurd (omega arith)

at_same : (k i : ℕ) → Some k ≡ Some i → k ≡ i
at_same k i e = cc

module _ (key : Key) where
  -- the key's row is at i
  pub record Here (i : ℕ) (ws : List Row) : Type 0 where
    pub entry : Entry
    pub below : i < length ws
    pub there : get_or ws i None ≡ Some entry
    pub named : entry.key ≡ key
    pub found : find_row ws key ≡ Some entry.doc
    pub put : (d : Doc) → replace ws key d ≡ set ws i (Some (record { key = key; doc = d }))

  -- the lowest free row is at i
  record Gap (i : ℕ) (ws : List Row) : Type 0 where
    below : i < length ws
    room : 0 < free_rows ws
    put : (d : Doc) → fill ws key d ≡ set ws i (Some (record { key = key; doc = d }))

  here-next : (j : ℕ) (w : Row) (ws : List Row) → find_row (w ∷ ws) key ≡ find_row ws key → ((d : Doc) → replace (w ∷ ws) key d ≡ w ∷ replace ws key d) → Here j ws → Here (suc j) (w ∷ ws)
  here-next j w ws f p h = record {
    entry = h.entry;
    below = omega (arith, h.below);
    there = h.there;
    named = h.named;
    found = f ∙ h.found;
    put = λ d. p d ∙ ap (λ (l : List Row). w ∷ l) (h.put d);
  }

  -- what is found in rows that are counted from k on
  abbrev From : (ℕ → List Row → Type 0) → ℕ → ℕ → List Row → Type 0
  From P k i ws = (j : ℕ) × ((i ≡ k + j) × P j ws)

  find-from : (k i : ℕ) (ws : List Row) → find_in key k ws ≡ Some i → From Here k i ws
  find-from k i [] e = nothing-at i e
  find-from k i (None ∷ ws) e =
      let h = find-from (k + 1) i ws e in
      (suc h.0, (omega (arith, h.1.0), here-next h.0 None ws refl (λ d. refl) h.1.1))
  find-from k i (Some x ∷ ws) e =
      cases (same x.key key)
      (λ s. (
        0,
        (
          omega (arith, at_same k i (rw s at e)),
          record {
            entry = x;
            below = omega arith;
            there = refl;
            named = same_true x.key key s;
            found = rw s;
            put = λ d. rw s;
          },
        ),
      ))
      (λ s.
      let h = find-from (k + 1) i ws (rw s at e) in
      (suc h.0, (omega (arith, h.1.0), here-next h.0 (Some x) ws (rw s) (λ d. rw s) h.1.1)))

  free-from : (k i : ℕ) (ws : List Row) → free_in k ws ≡ Some i → From Gap k i ws
  free-from k i [] e = nothing-at i e
  free-from k i (None ∷ ws) e = (0, (omega (arith, at_same k i e), record { below = omega arith; room = omega arith; put = λ d. refl }))
  free-from k i (Some x ∷ ws) e =
      let h = free-from (k + 1) i ws e in (
        suc h.0,
        (
          omega (arith, h.1.0),
          record {
            below = omega (arith, h.1.1.below);
            room = h.1.1.room;
            put = λ d. ap (λ (l : List Row). Some x ∷ l) (h.1.1.put d);
          },
        ),
      )

  from_zero : (P : ℕ → List Row → Type 0) (i : ℕ) (ws : List Row) → From P 0 i ws → P i ws
  from_zero P i ws h = let e : h.0 ≡ i = omega (arith, h.1.0) in subst (λ (n : ℕ). P n ws) e h.1.1

  module _ (ws : List Row) where
    pub find-place : (i : ℕ) → find_in key 0 ws ≡ Some i → Here i ws
    find-place i e = from_zero Here i ws (find-from 0 i ws e)

    free-place : (i : ℕ) → free_in 0 ws ≡ Some i → Gap i ws
    free-place i e = from_zero Gap i ws (free-from 0 i ws e)

  pub find-nothing : (k : ℕ) (ws : List Row) → find_in key k ws ≡ None → find_row ws key ≡ None
  find-nothing k [] e = refl
  find-nothing k (None ∷ ws) e = find-nothing (k + 1) ws e
  find-nothing k (Some x ∷ ws) e =
      cases (same x.key key)
      (λ s. nothing-at k (sym (rw s at e)))
      (λ s. rw s (find-nothing (k + 1) ws (rw s at e)))

  pub nothing-find : (k : ℕ) (ws : List Row) → find_row ws key ≡ None → find_in key k ws ≡ None
  nothing-find k [] e = refl
  nothing-find k (None ∷ ws) e = nothing-find (k + 1) ws e
  nothing-find k (Some x ∷ ws) e =
      cases (same x.key key)
      (λ s. none-some x.doc (sym (rw s at e)))
      (λ s. rw s (nothing-find (k + 1) ws (rw s at e)))

pub free-nothing : (k : ℕ) (ws : List Row) → free_in k ws ≡ None → free_rows ws ≡ 0
free-nothing k [] e = refl
free-nothing k (None ∷ ws) e = nothing-at k (sym e)
free-nothing k (Some x ∷ ws) e = free-nothing (k + 1) ws e

module _ (key : Key) (ws : List Row) where
  -- where a put goes
  pub record Place (i : ℕ) : Type 0 where
    pub below : i < length ws
    pub room : find_row ws key ≡ None → 0 < free_rows ws
    pub put : (d : Doc) → put_row ws key d ≡ set ws i (Some (record { key = key; doc = d }))

  pub at_place : (i : ℕ) → place_in key ws ≡ Some i → Place i
  at_place i e =
      founds (find_in key 0 ws)
      (λ j f.
      let h = find-place key ws i (f ∙ (rw f at e)) in
      record { below = h.below; room = λ n. none-some h.entry.doc (sym n ∙ h.found); put = λ d. rw h.found (h.put d) })
      (λ f.
      let h = free-place key ws i (rw f at e) in
      record { below = h.below; room = λ n. h.room; put = λ d. rw (find-nothing key 0 ws f) (h.put d) })

  pub put-place : (i : ℕ) (d : Doc) → place_in key ws ≡ Some i → put_row ws key d ≡ set ws i (Some (record { key = key; doc = d }))
  put-place i d e = (at_place i e).put d

  pub place-nothing : place_in key ws ≡ None → (find_row ws key ≡ None) × (free_rows ws ≡ 0)
  place-nothing e =
      founds (find_in key 0 ws)
      (λ j f. nothing-at j (sym (rw f at e)))
      (λ f. (find-nothing key 0 ws f, free-nothing 0 ws (rw f at e)))

  pub place-room : (find_row ws key ≡ None → 0 < free_rows ws) → (i : ℕ) × (place_in key ws ≡ Some i)
  place-room h =
      founds (place_in key ws)
      (λ i e. (i, e))
      (λ e. let n = place-nothing e in absurd (omega (arith, h n.0, n.1)))
