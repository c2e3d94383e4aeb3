-- One key: what its row holds after a list of writes is the greatest of what it held and what was written.
use Rattle.std.specs.Prelude.{is_some, Option, Some, None}
use mathlib.Core.Path.{◌≡◌, refl, sym, ◌∙◌}
use mathlib.Core.Bool.{Bool, true, false, cond, and-true, and-false, true≢false}
use mathlib.Core.Logic.{inl, inr, ⊎_elim}
use mathlib.Core.List.{List, [], ◌∷◌, ◌++◌}
use Rattle.octets.proofs.Choices.{cases}
use Rattle.numbers.specs.declared.Mode.{Mode}
use Rattle.numbers.proofs.OrderLaws.{strict-total}
use Rattle.document.specs.Documents.{Doc}
use Rattle.document.specs.Stored.{stored_of, accepted}
use Rattle.merge.specs.Writes.{greater_doc, ◌∈◌, Greatest, option_list, beats_all}

pub clash {ℓ} : {X : Type ℓ} {b : Bool} → b ≡ true → b ≡ false → X
clash p q = absurd (true≢false (sym p ∙ q))

-- the write of d is stored where the key's row holds o
abbrev pub wins : Mode → Option Doc → Doc → Bool
wins m o d = accepted m (stored_of o) d.numbers

-- what the row holds after a write, and after a list of writes
abbrev pub merged : Mode → Option Doc → Doc → Option Doc
merged m o d = cond (wins m o d) (Some d) o

abbrev pub best : Mode → Option Doc → List Doc → Option Doc
best m o [] = o
best m o (d ∷ ds) = best m (merged m o d) ds

pub best-append : (m : Mode) (o : Option Doc) (xs ys : List Doc) → best m o (xs ++ ys) ≡ best m (best m o xs) ys
best-append m o [] ys = refl
best-append m o (x ∷ xs) ys = best-append m (merged m o x) xs ys

module _ (m : Mode) where
  pub merged_some : (o : Option Doc) (d : Doc) → is_some (merged m o d) ≡ true
  unfolding accepted
  merged_some None d = refl
  merged_some (Some e) d = cases (greater_doc m d e) (λ t. rw t) (λ f. rw f)

  -- ---- the order on documents
  asymmetric : (a b : Doc) → greater_doc m a b ≡ true → greater_doc m b a ≡ false
  asymmetric a b p = cases (greater_doc m b a) (λ q. clash ((strict-total m).transitive a.numbers b.numbers a.numbers p q) ((strict-total m).irreflexive a.numbers)) (λ q. q)

  -- w is above b, and c is not: w is above c
  over : (w b c : Doc) → greater_doc m w b ≡ true → greater_doc m c b ≡ false → greater_doc m w c ≡ true
  over w b c p q =
      cases (greater_doc m b c)
      (λ t. (strict-total m).transitive w.numbers b.numbers c.numbers p t)
      (λ f. rw ((strict-total m).total c.numbers b.numbers q f) p)

  under : (a b c : Doc) → greater_doc m a b ≡ false → greater_doc m b c ≡ false → greater_doc m a c ≡ false
  under a b c p q = cases (greater_doc m a c) (λ t. clash (over a c b t q) p) (λ f. f)

  -- a write wins over what the row has come to hold exactly if it beats all that was there
  pub wins-all : (o : Option Doc) (ds : List Doc) (w : Doc) → wins m (best m o ds) w ≡ beats_all m w (option_list o ++ ds)
  unfolding accepted
  wins-all None [] w = refl
  wins-all (Some e) [] w = sym (and-true (greater_doc m w e))
  wins-all None (d ∷ ds) w = wins-all (Some d) ds w
  wins-all (Some e) (d ∷ ds) w =
      cases (greater_doc m d e)
      (λ t. rw t (wins-all (Some d) ds w ∙ cases (greater_doc m w d) (λ p. rw (p, (strict-total m).transitive w.numbers d.numbers e.numbers p t)) (λ p. rw (p, and-false))))
      (λ f. rw f (wins-all (Some e) ds w ∙ cases (greater_doc m w e) (λ p. rw (p, over w e d p f)) (λ p. rw p)))

  -- ---- the greatest: from a document on, `best` is a document
  abbrev top : Doc → List Doc → Doc
  top e [] = e
  top e (d ∷ ds) = top (cond (greater_doc m d e) d e) ds

  by-step : (P : Doc → Type 0) (e d : Doc) (ds : List Doc) → (greater_doc m d e ≡ true → P (top d ds)) → (greater_doc m d e ≡ false → P (top e ds)) → P (top e (d ∷ ds))
  by-step P e d ds t f = cases (greater_doc m d e) (λ a. rw a (t a)) (λ a. rw a (f a))

  best-top : (e : Doc) (ds : List Doc) → best m (Some e) ds ≡ Some (top e ds)
  unfolding accepted
  best-top e [] = refl
  best-top e (d ∷ ds) = cases (greater_doc m d e) (λ t. rw t (best-top d ds)) (λ f. rw f (best-top e ds))

  top-among : (e : Doc) (ds : List Doc) → top e ds ∈ (e ∷ ds)
  top-among e [] = inl refl
  top-among e (d ∷ ds) =
      by-step (λ x. x ∈ (e ∷ d ∷ ds)) e d ds
      (λ t. inr (top-among d ds))
      (λ f. ⊎_elim (λ p. inl p) (λ p. inr (inr p)) (top-among e ds))

  first_under : (e : Doc) (ds : List Doc) → greater_doc m e (top e ds) ≡ false
  first_under e [] = (strict-total m).irreflexive e.numbers
  first_under e (d ∷ ds) =
      by-step (λ x. greater_doc m e x ≡ false) e d ds
      (λ t. under e d (top d ds) (asymmetric d e t) (first_under d ds))
      (λ f. first_under e ds)

  all_under : (e : Doc) (ds : List Doc) (x : Doc) → x ∈ (e ∷ ds) → greater_doc m x (top e ds) ≡ false
  all_under e [] x h = ⊎_elim (λ p. rw p (first_under e [])) (λ p. absurd p) h
  all_under e (d ∷ ds) x h =
      ⊎_elim
      (λ p. rw p (first_under e (d ∷ ds)))
      (λ q. by-step (λ y. greater_doc m x y ≡ false) e d ds
      (λ t. all_under d ds x q)
      (λ f. ⊎_elim (λ p. rw p (under d e (top e ds) f (first_under e ds))) (λ p. all_under e ds x (inr p)) q))
      h

  -- documents that agree in all four numbers are the same
  abbrev Unique : List Doc → Type 0
  Unique ds = (a b : Doc) → a ∈ ds → b ∈ ds → a.numbers ≡ b.numbers → a ≡ b

  top-greatest : (e : Doc) (ds : List Doc) → Unique (e ∷ ds) → Greatest m (top e ds) (e ∷ ds)
  top-greatest e ds unique = record {
    among = top-among e ds;
    top = λ x h.
        cases (greater_doc m (top e ds) x)
        (λ t. inl t)
        (λ f. inr (unique x (top e ds) h (top-among e ds) ((strict-total m).total x.numbers (top e ds).numbers (all_under e ds x h) f)));
  }

  -- where anything is written, what the row ends with is the greatest
  pub best-greatest : (o : Option Doc) (d : Doc) (ds : List Doc) → Unique (option_list o ++ d ∷ ds)
      → (r : Doc) × (best m o (d ∷ ds) ≡ Some r) × Greatest m r (option_list o ++ d ∷ ds)
  unfolding accepted
  best-greatest None d ds u = (top d ds, best-top d ds, top-greatest d ds u)
  best-greatest (Some e) d ds u = (top e (d ∷ ds), best-top e (d ∷ ds), top-greatest e (d ∷ ds) u)
