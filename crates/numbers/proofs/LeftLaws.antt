-- The claims of specs/Claims.antt on the seconds left.
use Rattle.std.proofs.Common.{eqb, ℤ, pos, ◌+ℤ◌, ◌-ℤ◌, neg_ℤ, sym, refl, ap, ◌∙◌, ne_eqb}
use lib.IntN.{pos-+ℤ-pos, neg_ℤ-+ℤ, +ℤ_assoc, +ℤ_invr}
use Rattle.std.specs.Prelude.{Some}
use Rattle.octets.proofs.Choices.{cases}
use Rattle.numbers.specs.Expiry.{seconds_left, expired}
use Rattle.numbers.specs.Claims.{ExpiredSaid, RunsDown, Ends}
use Rattle.numbers.proofs.Differences.{le-sub}

pub expired-said : ExpiredSaid
unfolding expired seconds_left
expired-said expiry clock = cases (eqb expiry 0) (λ t. rw t) (λ t. rw t (le-sub expiry clock))

pub runs-down : RunsDown
unfolding seconds_left
runs-down expiry clock n z =
    rw (ne_eqb expiry 0 z)
    (ap (λ (k : ℤ). pos expiry -ℤ k) (sym (pos-+ℤ-pos clock n)) ∙ ap (λ (k : ℤ). pos expiry +ℤ k) (neg_ℤ-+ℤ (pos clock) (pos n))
    ∙ sym (+ℤ_assoc (pos expiry) (neg_ℤ (pos clock)) (neg_ℤ (pos n))))

pub ends : Ends
unfolding seconds_left
ends = record { first = refl; last = refl; at-expiry = λ e z. rw (ne_eqb e 0 z) (ap Some (+ℤ_invr (pos e))); never = λ c. refl }
