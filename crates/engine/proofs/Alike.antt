-- The laws of an engine suffice for a second one: specs/Alike.antt.
use native.Mathlib.Omega.{arith}
use mathlib.Core.Path.{◌≡◌, refl, sym, ap, ◌∙◌}
use mathlib.Core.Bool.{Bool, false, cond}
use mathlib.Core.List.{List, [], ◌∷◌}
use Rattle.std.specs.Prelude.{Option, Some, None}
use Prim.Native.Nat.{suc, ◌-◌}
use lib.ListN.{length}
use Rattle.octets.specs.Compare.{same}
use Rattle.octets.proofs.Choices.{cases}
use Rattle.octets.proofs.Options.{none-some}
use Rattle.octets.proofs.Tests.{same_true, same_refl}
use Rattle.document.specs.Documents.{Key, Doc, Entry}
use Rattle.engine.specs.Engine.{Engine, Laws, Room, find_entry, DistinctKeys, after_purge}
use Rattle.engine.specs.Alike.{Alike, LawsSuffice}

-- documents without a key's
abbrev without : Key → List Entry → List Entry
without k [] = []
without k (e ∷ es) = cond (same e.key k) es (e ∷ without k es)

length_without : (k : Key) (d : Doc) (es : List Entry) → find_entry es k ≡ Some d → length es ≡ suc (length (without k es))
length_without k d [] h = none-some d h
length_without k d (e ∷ es) h =
    cases (same e.key k)
    (λ s. rw s)
    (λ s. rw s (ap suc (length_without k d es (rw s at h))))

find-without : (k : Key) (es : List Entry) → DistinctKeys es → (j : Key) → find_entry (without k es) j ≡ cond (same k j) None (find_entry es j)
find-without k [] g j = cases (same k j) (λ s. rw s) (λ s. rw s)
find-without k (e ∷ es) g j =
    cases (same e.key k)
    (λ s.
    let q = same_true e.key k s in
    cases (same k j)
    (λ t. rw (s, t) (ap (find_entry es) (sym (q ∙ same_true k j t)) ∙ g.0))
    (λ t. rw (s, t, q) (rw t)))
    (λ s. cases (same k j)
    (λ t. let n : same e.key j ≡ false = ap (same e.key) (sym (same_true k j t)) ∙ s in rw (s, t, n) (find-without k es g.1 j ∙ rw t))
    (λ t. rw (s, t) (ap (λ (o : Option Doc). cond (same e.key j) (Some e.doc) o) (find-without k es g.1 j ∙ rw t))))

distinct_without : (k : Key) (es : List Entry) → DistinctKeys es → DistinctKeys (without k es)
distinct_without k [] g = tt
distinct_without k (e ∷ es) g =
    cases (same e.key k)
    (λ s. rw s g.1)
    (λ s.
    let n : find_entry (without k es) e.key ≡ None = find-without k es g.1 e.key ∙ cases (same k e.key) (λ t. rw t) (λ t. rw t g.0) in
    rw s (n, distinct_without k es g.1))

-- documents with distinct keys that are found alike are as many
pub as_many : (es fs : List Entry) → DistinctKeys es → DistinctKeys fs → ((k : Key) → find_entry es k ≡ find_entry fs k) → length es ≡ length fs
as_many [] [] g h q = refl
as_many [] (f ∷ fs) g h q =
    let z : find_entry (f ∷ fs) f.key ≡ Some f.doc = rw (same_refl f.key) in
    none-some f.doc (q f.key ∙ z)
as_many (e ∷ es) fs g h q =
    let k = e.key in
    let there : find_entry fs k ≡ Some e.doc = sym (q k) ∙ rw (same_refl k) in
    let alike : (j : Key) → find_entry es j ≡ find_entry (without k fs) j =
    λ j. cases (same k j)
    (λ s. ap (find_entry es) (sym (same_true k j s)) ∙ g.0 ∙ sym (find-without k fs h j ∙ rw s))
    (λ s. let p : find_entry es j ≡ find_entry fs j = sym (rw s) ∙ q j in p ∙ sym (find-without k fs h j ∙ rw s)) in
    ap suc (as_many es (without k fs) g.1 (distinct_without k fs h) alike) ∙ sym (length_without k e.doc fs there)

module _ (E F : Engine) (L : Laws E) (M : Laws F) where
  same-free : (r : E.Rows) (s : F.Rows) → Alike E F r s → E.free r ≡ F.free s
  same-free r s a =
      let n = as_many (E.docs r) (F.docs s) (L.distinct-docs r a.good) (M.distinct-docs s a.other-good)
      (λ k. sym (L.find-docs r a.good k) ∙ a.find k ∙ M.find-docs s a.other-good k) in
      omega (arith, n, L.count r a.good, M.count s a.other-good, a.size)

  same-put : (r : E.Rows) (s : F.Rows) (k : Key) (d : Doc) → Alike E F r s → Room E r k → Alike E F (E.put r k d) (F.put s k d)
  same-put r s k d a room =
      let room' : Room F s k = λ n. let m = room (a.find k ∙ n) in omega (arith, m, same-free r s a) in
      record {
        good = L.good-put r k d a.good room;
        other-good = M.good-put s k d a.other-good room';
        find = λ j. L.find-put r k d a.good room j ∙ ap (λ (o : Option Doc). cond (same k j) (Some d) o) (a.find j) ∙ sym (M.find-put s k d a.other-good room' j);
        size = L.size-put r k d a.good room ∙ a.size ∙ sym (M.size-put s k d a.other-good room');
      }

  same-purge : (r : E.Rows) (s : F.Rows) (p : Doc → Bool) → Alike E F r s → Alike E F (E.purge r p) (F.purge s p)
  same-purge r s p a = record {
    good = L.good-purge r p a.good;
    other-good = M.good-purge s p a.other-good;
    find = λ k. L.find-purge r p a.good k ∙ ap (after_purge p) (a.find k) ∙ sym (M.find-purge s p a.other-good k);
    size = L.size-purge r p a.good ∙ a.size ∙ sym (M.size-purge s p a.other-good);
  }

pub laws-suffice : LawsSuffice
laws-suffice E F L M = record {
  free = same-free E F L M;
  put = same-put E F L M;
  purge = same-purge E F L M;
  freed = λ r s p a. (λ i. same-free E F L M (E.purge r p) (F.purge s p) (same-purge E F L M r s p a) i - same-free E F L M r s a i);
}
