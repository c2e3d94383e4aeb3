-- What holds of every row and of every write holds of every candidate.
use mathlib.Core.Path.{◌≡◌, refl}
use mathlib.Core.Logic.{⊎_elim}
use mathlib.Core.List.{List, [], ◌∷◌, ◌++◌}
use Rattle.std.specs.Prelude.{Option, Some, None}
use Rattle.octets.specs.Compare.{same}
use Rattle.octets.proofs.Choices.{cases}
use Rattle.document.specs.Documents.{Key, Doc, Entry}
use Rattle.rows.specs.Row.{Row}
use Rattle.rows.specs.Find.{find_row}
use Rattle.octets.proofs.Options.{none-some}
use Rattle.merge.specs.Writes.{◌∈◌, option_list, for}
use Rattle.merge.specs.Merge.{All}

module _ (P : Doc → Type 0) where
  abbrev pub Holds : Row → Type 0
  Holds None = Unit {0}
  Holds (Some e) = P e.doc

  pub found_all : (rows : List Row) (k : Key) (d : Doc) → All Holds rows → find_row rows k ≡ Some d → P d
  found_all [] k d p e = none-some d e
  found_all (None ∷ rows) k d p e = found_all rows k d p.1 e
  found_all (Some x ∷ rows) k d p e =
      cases (same x.key k)
      (λ s. let e' = rw s at e in let z : x.doc ≡ d = cc in rw (← z) p.0)
      (λ s. found_all rows k d p.1 (rw s at e))

  pub for-all : (ws : List Entry) (k : Key) (d : Doc) → All (λ w. P w.doc) ws → d ∈ for k ws → P d
  for-all [] k d p h = absurd h
  for-all (w ∷ ws) k d p h =
      cases (same w.key k)
      (λ s. ⊎_elim (λ e. rw e p.0) (λ r. for-all ws k d p.1 r) (rw s at h))
      (λ s. for-all ws k d p.1 (rw s at h))

  pub candidates-all : (o : Option Doc) (ds : List Doc) (d : Doc) → ((e : Doc) → o ≡ Some e → P e) → (d ∈ ds → P d) → d ∈ (option_list o ++ ds) → P d
  candidates-all None ds d p q h = q h
  candidates-all (Some e) ds d p q h = ⊎_elim (λ z. rw z (p e refl)) q h
