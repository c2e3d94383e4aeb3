-- A list of writes on one engine: rows, mark and statuses, each write by what the one before left.
use Rattle.std.specs.Prelude.{is_some, Option, Some}
use native.Mathlib.Omega.{arith}
use mathlib.Core.Path.{◌≡◌, refl, ◌∙◌, fun_ext}
use mathlib.Core.Bool.{Bool, cond, ◌||◌}
use mathlib.Core.List.{List, [], ◌∷◌, ◌++◌}
use Prim.Native.Nat.{ℕ, ◌≤◌, max}
use Rattle.octets.specs.Compare.{same}
use Rattle.octets.proofs.Choices.{cases}
use Rattle.octets.proofs.Tests.{same_true}
use Rattle.numbers.specs.declared.Mode.{Mode}
use Rattle.numbers.specs.declared.Mode.TheVariants.{LastWrite}
use Rattle.numbers.proofs.OrderLaws.{not-later}
use Rattle.document.specs.Documents.{Key, Doc, Entry}
use Rattle.engine.specs.Engine.{Engine, Laws, Room}
use Rattle.document.specs.Stored.{accepted}
use Rattle.octets.proofs.Options.{options}
use Rattle.merge.specs.Writes.{greater_doc, option_list, for, new_keys, largest_cas, beats_all, verdicts, applied}
use Rattle.merge.proofs.Greatest.{wins, merged, best, best-append, merged_some, wins-all}

for-append : (k : Key) (xs ys : List Entry) → for k (xs ++ ys) ≡ for k xs ++ for k ys
for-append k [] ys = refl
for-append k (x ∷ xs) ys = cases (same x.key k) (λ t. rw (t, for-append k xs ys)) (λ f. rw (f, for-append k xs ys))

module _ (E : Engine) (m : Mode) where
  abbrev pub written : E.Rows → Entry → E.Rows
  written r w = cond (wins m (E.find r w.key) w.doc) (E.put r w.key w.doc) r

  abbrev pub written_all : E.Rows → List Entry → E.Rows
  written_all r [] = r
  written_all r (w ∷ ws) = written_all (written r w) ws

  abbrev pub raised : ℕ → E.Rows → Entry → ℕ
  raised n r w = cond (wins m (E.find r w.key) w.doc) (max n w.doc.numbers.cas.0) n

  abbrev pub raised_all : ℕ → E.Rows → List Entry → ℕ
  raised_all n r [] = n
  raised_all n r (w ∷ ws) = raised_all (raised n r w) (written r w) ws

  abbrev pub statuses : E.Rows → List Entry → List ℕ
  statuses r [] = []
  statuses r (w ∷ ws) = cond (wins m (E.find r w.key) w.doc) 0 0x02 ∷ statuses (written r w) ws

-- the keys that have a row
abbrev has : (E : Engine) → E.Rows → Key → Bool
has E r k = is_some (E.find r k)

-- each stored CAS is at most n
abbrev Below : (E : Engine) → ℕ → E.Rows → Type 0
Below E n r = (k : Key) (d : Doc) → E.find r k ≡ Some d → d.numbers.cas.0 ≤ n

-- what holds before a list of writes, and so before the rest of it
pub record Ready (E : Engine) (n : ℕ) (r : E.Rows) (ws : List Entry) : Type 0 where
  pub good : E.Good r
  pub below : Below E n r
  pub room : new_keys (has E r) ws ≤ E.free r

module _ (E : Engine) (L : Laws E) (m : Mode) where
  -- ---- one write
  module _ (r : E.Rows) (w : Entry) (g : E.Good r) (room : Room E r w.key) where
    good-written : E.Good (written E m r w)
    good-written = cases (wins m (E.find r w.key) w.doc) (λ t. rw t (L.good-put r w.key w.doc g room)) (λ f. rw f g)

    find-written : (k : Key) → E.find (written E m r w) k ≡ cond (same w.key k) (merged m (E.find r k) w.doc) (E.find r k)
    find-written k =
        cases (wins m (E.find r w.key) w.doc)
        (λ t. rw t (L.find-put r w.key w.doc g room k ∙ cases (same w.key k) (λ s. rw (s, ← same_true w.key k s, t)) (λ s. rw s)))
        (λ f. rw f (cases (same w.key k) (λ s. rw (s, ← same_true w.key k s, f)) (λ s. rw s)))

    has-written : has E (written E m r w) ≡ (λ k. same w.key k || has E r k)
    has-written = fun_ext (λ k. rw (find-written k) (cases (same w.key k) (λ s. rw (s, merged_some)) (λ s. rw s)))

    below-written : (n : ℕ) → Below E n r → Below E (raised E m n r w) (written E m r w)
    below-written n b k d q =
        cases (wins m (E.find r w.key) w.doc)
        (λ t. rw t (cases (same w.key k)
        (λ s. let q' = rw (t, L.find-put r w.key w.doc g room k, s) at q in let c : w.doc ≡ d = cc in rw (← c) (omega arith))
        (λ s. let q' = rw (t, L.find-put r w.key w.doc g room k, s) at q in omega (arith, b k d q'))))
        (λ f. rw f (b k d (rw f at q)))

  -- ---- room
  room-first : (r : E.Rows) (w : Entry) (ws : List Entry) → new_keys (has E r) (w ∷ ws) ≤ E.free r → Room E r w.key
  room-first r w ws h n = let h' = rw n at h in omega arith

  known-already : (r : E.Rows) (i : Key) (d : Doc) → E.find r i ≡ Some d → ◌≡◌ {A = Key → Bool} (λ k. same i k || has E r k) (has E r)
  known-already r i d h = fun_ext (λ k. cases (same i k) (λ s. rw (s, ← same_true i k s, h)) (λ s. rw s))

  free-kept : (r : E.Rows) (w : Entry) (d : Doc) → E.Good r → E.find r w.key ≡ Some d → E.free (written E m r w) ≡ E.free r
  free-kept r w d g h = cases (wins m (E.find r w.key) w.doc) (λ t. rw t (L.free-old r w.key w.doc d g h)) (λ f. rw f)

  room-rest : (r : E.Rows) (w : Entry) (ws : List Entry) → E.Good r → new_keys (has E r) (w ∷ ws) ≤ E.free r → new_keys (has E (written E m r w)) ws ≤ E.free (written E m r w)
  unfolding accepted
  room-rest r w ws g h =
      rw (has-written r w g (room-first r w ws h))
      (options (E.find r w.key)
      (λ n. let h' = rw n at h in rw n (omega (arith, L.free_new r w.key w.doc g n (room-first r w ws h n))))
      (λ d s. rw (known-already r w.key d s, free-kept r w d g s) (rw s at h)))

  -- ---- the list
  module _ (n : ℕ) (r : E.Rows) (w : Entry) (ws : List Entry) (h : Ready E n r (w ∷ ws)) where
    pub room-one : Room E r w.key
    room-one = room-first r w ws h.room

    pub ready-rest : Ready E (raised E m n r w) (written E m r w) ws
    ready-rest = record {
      good = good-written r w h.good room-one;
      below = below-written r w h.good room-one n h.below;
      room = room-rest r w ws h.good h.room;
    }

  pub ready-end : (n : ℕ) (r : E.Rows) (ws : List Entry) → Ready E n r ws → Ready E (raised_all E m n r ws) (written_all E m r ws) []
  ready-end n r [] h = h
  ready-end n r (w ∷ ws) h = ready-end (raised E m n r w) (written E m r w) ws (ready-rest n r w ws h)

  -- every key's row ends with the best of what it held and what was written for it
  pub find-all : (n : ℕ) (r : E.Rows) (ws : List Entry) → Ready E n r ws → (k : Key) → E.find (written_all E m r ws) k ≡ best m (E.find r k) (for k ws)
  find-all n r [] h k = refl
  find-all n r (w ∷ ws) h k =
      find-all (raised E m n r w) (written E m r w) ws (ready-rest n r w ws h) k
      ∙ rw (find-written r w h.good (room-one n r w ws h) k) (cases (same w.key k) (λ s. rw s) (λ s. rw s))

  pub statuses-verdicts : (n : ℕ) (start : Key → Option Doc) (earlier : List Entry) (r : E.Rows) (ws : List Entry) → Ready E n r ws
      → ((k : Key) → E.find r k ≡ best m (start k) (for k earlier)) → statuses E m r ws ≡ verdicts m start earlier ws
  statuses-verdicts n start earlier r [] h before = refl
  statuses-verdicts n start earlier r (w ∷ ws) h before =
      let first : wins m (E.find r w.key) w.doc ≡ beats_all m w.doc (option_list (start w.key) ++ for w.key earlier) =
      rw (before w.key) (wins-all m (start w.key) (for w.key earlier) w.doc) in
      let rest = statuses-verdicts (raised E m n r w) start (earlier ++ w ∷ []) (written E m r w) ws (ready-rest n r w ws h)
      (λ k. find-written r w h.good (room-one n r w ws h) k
      ∙ rw (for-append k earlier (w ∷ []), best-append, before k) (cases (same w.key k) (λ s. rw s) (λ s. rw s))) in
      cc

  pub mark-stored : (n : ℕ) (r : E.Rows) (ws : List Entry) → raised_all E m n r ws ≡ largest_cas n (applied (statuses E m r ws) ws)
  mark-stored n r [] = refl
  mark-stored n r (w ∷ ws) =
      cases (wins m (E.find r w.key) w.doc)
      (λ t. rw t (mark-stored (max n w.doc.numbers.cas.0) (E.put r w.key w.doc) ws))
      (λ f. rw f (mark-stored n r ws))

module _ (E : Engine) (L : Laws E) where
  -- last-write-wins: a refused write's CAS is at most the stored one's, so every write counts
  raised-last : (n : ℕ) (r : E.Rows) (w : Entry) → Below E n r → raised E LastWrite n r w ≡ max n w.doc.numbers.cas.0
  unfolding accepted
  raised-last n r w b =
      options (E.find r w.key)
      (λ q. rw q)
      (λ d q. rw q (cases (greater_doc LastWrite w.doc d) (λ t. rw t) (λ f. rw f (omega (arith, not-later w.doc.numbers d.numbers f, b w.key d q)))))

  pub mark-last : (n : ℕ) (r : E.Rows) (ws : List Entry) → Ready E n r ws → raised_all E LastWrite n r ws ≡ largest_cas n ws
  mark-last n r [] h = refl
  mark-last n r (w ∷ ws) h =
      mark-last (raised E LastWrite n r w) (written E LastWrite r w) ws (ready-rest E L LastWrite n r w ws h) ∙ rw (raised-last n r w h.below)
