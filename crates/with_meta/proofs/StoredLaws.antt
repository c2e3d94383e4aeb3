-- A shape that stores something has a number of its own for it, and any other number keeps the rules of none.
use Prim.Native.Nat.{ℕ}
use mathlib.Core.Path.{◌≡◌}
use mathlib.Core.List.{List}
use native.Mathlib.Omega.{arith}
use lib.Dec.{eqb}
use borrow.Author.Tests.{eqb-true}
use Rattle.octets.proofs.Choices.{cases}
use Rattle.with_meta.specs.declared.Stored.{Stored}
use Rattle.with_meta.specs.declared.Stored.TheVariants.{Document, Tombstone}
use Rattle.with_meta.specs.declared.WithMeta.{WithMeta}
use Rattle.with_meta.specs.FieldRules.{stored_number, meta_number, stored_of, body_ok, with_meta_ok}

pub stores-some : (s : Stored) → stored_number s ≡ 0 → ⊥
stores-some Document z = omega arith
stores-some Tombstone z = omega arith

body-told : (n : ℕ) (w : WithMeta) (k : ℕ) → body_ok (meta_number (stored_of n)) w k ≡ body_ok n w k
unfolding body_ok
body-told n w k =
    cases (eqb n 1)
    (λ d. rw (eqb-true n 1 d))
    (λ d. cases (eqb n 2) (λ t. rw (eqb-true n 2 t)) (λ t. rw (d, t)))

pub told-ok : (n : ℕ) (w : WithMeta) (value : List ℕ) → with_meta_ok (meta_number (stored_of n)) w value ≡ with_meta_ok n w value
unfolding with_meta_ok
told-ok n w value = rw body-told
