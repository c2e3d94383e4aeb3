-- Laws of specs/Order.antt: the published order is a strict total order in both modes.
use Rattle.std.proofs.Common.{◌≡◌, ℕ, ◌<◌, ◌≤◌, Bool, true, false, eqb, ltb, ◌⊎◌, refl, inl, inr, ⊎_elim, true≢false, arith, ltb-false, ltb-true, le-ltb, lt-ltb, eq-eqb, eqb-true}
use borrow.Author.Tests.{eqb-false}
use Rattle.octets.proofs.Choices.{cases, both}
use Rattle.numbers.specs.declared.Numbers.{Numbers}
use Rattle.numbers.specs.declared.Mode.{Mode}
use Rattle.numbers.specs.declared.Mode.TheVariants.{ByRevision, LastWrite}
use Rattle.numbers.specs.Order.{above, lead, second, greater}
use Rattle.numbers.specs.Claims.{StrictTotal}

-- ---- one number, then the rest
same_number : (a : ℕ) (rest : Bool) → above a a rest ≡ rest
unfolding above
same_number a rest = rw (le-ltb a a (omega arith), eq-eqb a a refl)

larger-number : (a b : ℕ) (rest : Bool) → b < a → above a b rest ≡ true
unfolding above
larger-number a b rest h = rw (lt-ltb b a h)

above-true : (a b : ℕ) (rest : Bool) → above a b rest ≡ true → (b < a) ⊎ ((a ≡ b) × (rest ≡ true))
unfolding above
above-true a b rest e =
    cases (ltb b a) (λ t. inl (ltb-true b a t)) (λ f.
    let p = both (eqb a b) rest (rw f at e) in
    inr (eqb-true a b p.0, p.1))

above-false : (a b : ℕ) (rest : Bool) → above a b rest ≡ false → (a < b) ⊎ ((a ≡ b) × (rest ≡ false))
unfolding above
above-false a b rest e =
    cases (ltb b a) (λ t. absurd (true≢false (rw t at e))) (λ f.
    cases (eqb a b)
    (λ q. inr (eqb-true a b q, rw (f, q) at e))
    (λ q. let n = ltb-false b a f in let m : (a ≡ b → ⊥) = eqb-false a b q in inl (omega arith)))

above-trans : (a b c : ℕ) (r s t : Bool) → above a b r ≡ true → above b c s ≡ true → (r ≡ true → s ≡ true → t ≡ true) → above a c t ≡ true
above-trans a b c r s t p q k =
    ⊎_elim (λ x. ⊎_elim (λ y. larger-number a c t (omega arith)) (λ y. larger-number a c t (omega arith)) (above-true b c s q))
    (λ x. ⊎_elim (λ y. larger-number a c t (omega arith)) (λ y. rw (x.0, y.0, same_number) (k x.1 y.1)) (above-true b c s q))
    (above-true a b r p)

above-tie : (a b : ℕ) (r s : Bool) → above a b r ≡ false → above b a s ≡ false → (a ≡ b) × (r ≡ false) × (s ≡ false)
above-tie a b r s p q =
    ⊎_elim (λ x. absurd (⊎_elim (λ y. omega arith) (λ y. omega arith) (above-false b a s q)))
    (λ x. ⊎_elim (λ y. absurd (omega arith)) (λ y. (x.0, x.1, y.1)) (above-false b a s q))
    (above-false a b r p)

less-trans : (a b c : ℕ) → ltb a b ≡ true → ltb b c ≡ true → ltb a c ≡ true
less-trans a b c p q = lt-ltb a c (omega (arith, ltb-true))

-- ---- the order
module _ (m : Mode) where
  irreflexive : (a : Numbers) → greater m a a ≡ false
  unfolding greater
  irreflexive a = simp same_number (le-ltb a.flags a.flags (omega arith))

  transitive : (a b c : Numbers) → greater m a b ≡ true → greater m b c ≡ true → greater m a c ≡ true
  unfolding greater
  transitive a b c p q =
      above-trans (lead m a) (lead m b) (lead m c) _ _ _ p q (λ p q.
      above-trans (second m a) (second m b) (second m c) _ _ _ p q (λ p q.
      above-trans a.expiry b.expiry c.expiry _ _ _ p q (less-trans a.flags b.flags c.flags)))

-- the four numbers are those that the mode looks at
by_mode : (m : Mode) (a b : Numbers) → lead m a ≡ lead m b → second m a ≡ second m b → a.expiry ≡ b.expiry → a.flags ≡ b.flags → a ≡ b
unfolding lead second
by_mode ByRevision a b p q r s = λ i. record { flags = s i; expiry = r i; revision = record { 0 = p i }; cas = record { 0 = q i } }
by_mode LastWrite a b p q r s = λ i. record { flags = s i; expiry = r i; revision = record { 0 = q i }; cas = record { 0 = p i } }

total : (m : Mode) (a b : Numbers) → greater m a b ≡ false → greater m b a ≡ false → a ≡ b
unfolding greater
total m a b p q =
    let (e1, p, q) = above-tie _ _ _ _ p q in
    let (e2, p, q) = above-tie _ _ _ _ p q in
    let (e3, p, q) = above-tie _ _ _ _ p q in
    by_mode m a b e1 e2 e3 (omega (arith, ltb-false))

pub strict-total : (m : Mode) → StrictTotal m
strict-total m = record { irreflexive = irreflexive m; transitive = transitive m; total = total m }

-- in last-write-wins, numbers that are not greater have no larger CAS
pub not-later : (a b : Numbers) → greater LastWrite a b ≡ false → a.cas.0 ≤ b.cas.0
unfolding greater lead
not-later a b e = ⊎_elim (λ x. omega arith) (λ x. omega arith) (above-false a.cas.0 b.cas.0 _ e)
