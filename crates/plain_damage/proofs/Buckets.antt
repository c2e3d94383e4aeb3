-- The buckets that some fingerprints fall in, as the damage test notes them: one that none falls in has none of them.
use Prim.Native.Nat.{ℕ}
use mathlib.Core.Path.{◌≡◌, refl, sym, ap, ◌∙◌}
use mathlib.Core.Bool.{false}
use mathlib.Core.List.{List, [], ◌∷◌}
use native.Mathlib.Omega.{arith}
use lib.Dec.{eqb}
use lib.ListN.{length, get_or, set, replicate, length-replicate, length-set}
use lib.Seq.{get_or-set_same, get_or-set_other}
use borrow.Author.Tests.{eqb-true, eqb-false, ne_eqb}
use Rattle.octets.proofs.Choices.{cases}
use Rattle.fingerprint.specs.Fingerprint.{bucket_of, print_among}
use Rattle.fingerprint.proofs.Buckets.{bucket-lt}

-- 1 for each bucket that one of these fingerprints falls in, 0 for the others
unfoldable pub seen_in : List ℕ → List ℕ
seen_in [] = replicate 1024 0
seen_in (p ∷ ps) = set (seen_in ps) (bucket_of p) 1

seen-length : (ps : List ℕ) → length (seen_in ps) ≡ 1024
unfolding seen_in
seen-length [] = length-replicate {A = ℕ} 1024 0
seen-length (p ∷ ps) = length-set (seen_in ps) (bucket_of p) 1 ∙ seen-length ps

pub unseen : (p : ℕ) (ps : List ℕ) → get_or (seen_in ps) (bucket_of p) 0 ≡ 0 → print_among p ps ≡ false
unfolding seen_in print_among
unseen p [] e = refl
unseen p (q ∷ ps) e =
    cases (eqb (bucket_of p) (bucket_of q))
    (λ t.
    let one = get_or-set_same (seen_in ps) (bucket_of q) 1 0 (omega (arith, bucket-lt q, seen-length ps)) in
    let none = ap (λ (b : ℕ). get_or (set (seen_in ps) (bucket_of q) 1) b 0) (sym (eqb-true (bucket_of p) (bucket_of q) t)) ∙ e in
    absurd (let z : ⊥ = omega (arith, one, none) in z))
    (λ f.
    let apart = eqb-false (bucket_of p) (bucket_of q) f in
    rw (ne_eqb q p (λ z. apart (ap bucket_of (sym z)))) (unseen p ps (sym (get_or-set_other (seen_in ps) (bucket_of q) (bucket_of p) 1 0 apart) ∙ e)))
