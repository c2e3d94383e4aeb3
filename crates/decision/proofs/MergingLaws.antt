-- A write of demand 3 is stored exactly if it is accepted, and otherwise refused with 0x02.
use Prim.Native.Nat.{ℕ}
use mathlib.Core.Path.{◌≡◌, refl}
use mathlib.Core.Bool.{Bool, true, false, cond, not, beq}
use mathlib.Core.List.{List, []}
use lib.ListN.{length}
use borrow.Author.Tests.{eq-eqb, le-ltb}
use Rattle.octets.proofs.Choices.{cases}
use Rattle.numbers.specs.Order.{mode_of}
use Rattle.document.specs.Stored.{stored_of, accepted}
use Rattle.commands.specs.declared.MetaKind.{MetaKind}
use Rattle.commands.specs.declared.MetaKind.TheVariants.{Set, Add, Delete}
use Rattle.effects.specs.declared.Source.TheVariants.{Empty, Frame}
use Rattle.commands.specs.Rules.{is_add_meta, is_last, rule_of, tests_of, first_status, first_failure}
use Rattle.effects.specs.Done.{done_of}
use Rattle.decision.specs.Decision.{decision}
use Rattle.decision.specs.Decide.{decide, bytes_from}
use Rattle.decision.specs.Merging.{SetOrDelete}
use Rattle.decision.specs.Claims.{MergingDecided}

not-add : (k : MetaKind) → SetOrDelete k → is_add_meta k ≡ false
not-add Set s = refl
not-add Add s = absurd s
not-add Delete s = refl

source-bytes : (tomb : Bool) (frame stored : List ℕ) → bytes_from (cond tomb Empty Frame) frame stored ≡ cond tomb [] frame
source-bytes true frame stored = refl
source-bytes false frame stored = refl

same-beq : (b : Bool) → not (beq b b) ≡ false
same-beq true = refl
same-beq false = refl

pub merging-decided : MergingDecided
unfolding decide decision rule_of tests_of first_status first_failure done_of
merging-decided h row free w c active p room =
    let fault : not (beq w.last (is_last (mode_of h.mode))) ≡ false = rw p.mode (same-beq (is_last (mode_of h.mode))) in
    let long = le-ltb 1024 (length c.request.value) p.short in
    let here = eq-eqb c.request.vbucket h.vbucket p.here in
    rw (p.with-meta, fault, p.supported, long, here, active, p.header-cas, p.force, p.regenerate, p.skip, not-add w.kind p.kind, room)
    (cases (accepted (mode_of h.mode) (stored_of row) w.numbers) (λ t. rw t (rw source-bytes)) (λ t. rw t))
