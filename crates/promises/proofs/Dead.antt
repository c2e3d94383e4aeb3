-- A key without a live document: what needs one is answered 0x01, an Append or a Prepend 0x05, and a Set or an Add is not refused for it.
use Prim.Native.Nat.{ℕ, ◌+◌}
use native.Mathlib.Omega.{arith}
use mathlib.Core.Path.{◌≡◌, refl, ap, ◌∙◌}
use mathlib.Core.Bool.{Bool, true, false, not, ◌&&◌, ◌||◌}
use mathlib.Core.List.{List, ◌++◌}
use mathlib.Core.Logic.{⊎_elim}
use lib.ListN.{take}
use lib.Dec.{eqb}
use borrow.Author.Tests.{not-true}
use Rattle.engine.specs.declared.Config.{Config}
use Rattle.octets.proofs.Choices.{both, either}
use Rattle.header.specs.Header.{header_of}
use Rattle.shape.specs.Shapes.{among}
use Rattle.commands.specs.declared.Context.{Context}
use Rattle.commands.specs.declared.Command.{Command}
use Rattle.commands.specs.declared.Instruction.{Instruction}
use Rattle.commands.specs.declared.Tests.{Tests}
use Rattle.commands.specs.Rules.{Rule, Check, rule_of, tests_of, guard, first_failure}
use Rattle.decision.specs.Decide.{instruction_of}
use Rattle.decode.specs.Decode.{request_of}
use Rattle.rows.specs.Table.{table_of, table_at, clock_at}
use Rattle.serving.specs.Serve.{context_on}
use Rattle.serving.specs.Statuses.{tests_on, statuses}
use Rattle.promises.specs.Merge.{doc_at}
use Rattle.promises.specs.Kept.{later_at}
use Rattle.promises.specs.Expiry.{opcode, header_cas, extras_in, key_in, gets, replaces, deletes, touches, joins, keyed, counters, counter_expiry, needs_live}
use Rattle.promises.specs.Expiry.{NotLive, Passes, DeadIsMissing, DeadIsUnstored, DeadIsWritten}
use Rattle.promises.proofs.Asks.{tested, ask, needs, guarded, joinless, writes, counts, joining}
use Rattle.promises.proofs.Liveness.{and-false, or-true, dead-at, later, Without, status, answers, avoids}
use Rattle.promises.proofs.Keeps.{status-keeps}

-- needed, or guarded by a header CAS
asked-for : (g n x : Bool) → (g || n) ≡ true → x ≡ true → (n || (g && x)) ≡ true
asked-for true n x e z = rw z (or-true n)
asked-for false n x e z = rw e

-- by what a frame needs a live document
module _ {ℓ} {X : Type ℓ} (s : List ℕ) (command : among (opcode s) (gets ++ (replaces ++ (deletes ++ touches))) ≡ true → X)
    (cas : among (opcode s) keyed ≡ true → not (eqb (header_cas s) 0) ≡ true → X) (expiry : among (opcode s) counters ≡ true → eqb (counter_expiry s) 0xffffffff ≡ true → X) where
  needs-by : needs_live s ≡ true → X
  needs-by e =
      ⊎_elim command
      (λ a. ⊎_elim (λ g. let p = both (among (opcode s) keyed) _ g in cas p.0 p.1)
      (λ k. let p = both (among (opcode s) counters) _ k in expiry p.0 p.1)
      (either (among (opcode s) keyed && not (eqb (header_cas s) 0)) _ a))
      (either (among (opcode s) (gets ++ (replaces ++ (deletes ++ touches)))) _ e)

-- none of the joins does
pub needs-keyed : (s : List ℕ) → needs_live s ≡ true → among (opcode s) keyed ≡ true
unfolding among
needs-keyed s e =
    let known : ℕ → Bool = λ x. among x keyed in
    needs-by s (tested known (opcode s) (gets ++ (replaces ++ (deletes ++ touches))) refl) (λ k _. k) (λ k _. tested known (opcode s) counters refl k) e

module _ (config : Config) (b : List ℕ) (clock : ℕ) (s : List ℕ) where
  abbrev pub seen : Context
  seen = context_on (table_at (table_of b) clock) (clock_at (table_of b) clock) (doc_at b (key_in s))

  abbrev pub command : Command
  command = (request_of config.forcing s (header_of s)).command

  abbrev pub rule : Rule
  rule = rule_of seen command

  abbrev pub instruction : Instruction
  instruction = instruction_of (request_of config.forcing s (header_of s))

  abbrev pub tests : Tests
  tests = tests_on config (table_at (table_of b) clock) (clock_at (table_of b) clock) s (header_of s)

  pub command-asked : command ≡ ask seen (extras_in s) (opcode s)
  unfolding request_of
  command-asked = refl

  abbrev Sought : Type 0
  Sought = (rule.needs || guard instruction rule) ≡ true

  by-need : rule.needs ≡ true → Sought
  by-need e = rw e

  by-guard : (rule.guarded || rule.needs) ≡ true → not (eqb (header_cas s) 0) ≡ true → Sought
  unfolding request_of
  by-guard e z = asked-for rule.guarded rule.needs (not (eqb (header_cas s) 0)) e z

  pub count-needs : among (opcode s) counters ≡ true → rule.needs ≡ eqb (counter_expiry s) 0xffffffff
  unfolding request_of rule_of
  count-needs e = let (up, z) = counts seen (extras_in s) (opcode s) e in rw z

  pub sought : needs_live s ≡ true → Sought
  unfolding request_of
  sought e =
      needs-by s (λ a. by-need (needs seen (extras_in s) (opcode s) a))
      (λ k c. by-guard (guarded seen (extras_in s) (opcode s) k) c)
      (λ k c. by-need (count-needs k ∙ c)) e

  pub unguarded : header_cas s ≡ 0 → guard instruction rule ≡ false
  unfolding request_of
  unguarded z = ap (λ (x : ℕ). rule.guarded && not (eqb x 0)) z ∙ and-false rule.guarded

  pub not-missing : rule.needs ≡ false → header_cas s ≡ 0 → tests.missing ≡ false
  unfolding tests_of
  not-missing e z = rw (e, unguarded z)

  pub not-unstored : among (opcode s) keyed ≡ true → tests.unstored ≡ false
  unfolding tests_of request_of
  not-unstored e = rw (not-true rule.joins (joinless seen (extras_in s) (opcode s) e))

  pub join-joins : among (opcode s) joins ≡ true → rule.joins ≡ true
  unfolding request_of rule_of
  join-joins e = let (side, z) = joining seen (extras_in s) (opcode s) e in rw z

  -- where a test doesn't fail, its status isn't given
  abbrev pub list : List Check
  list = statuses config (table_at (table_of b) clock) (clock_at (table_of b) clock) s (header_of s)

  pub without-unstored : tests.unstored ≡ false → Without 0x05 list
  without-unstored u = (refl, (refl, (refl, (refl, (refl, (refl, (refl, (refl, (u, (refl, (refl, (refl, (refl, (refl, (refl, refl)))))))))))))))

  pub without-missing : tests.missing ≡ false → Without 0x01 list
  without-missing m = (refl, (refl, (refl, (refl, (refl, (refl, (refl, (refl, (refl, (m, (refl, (refl, (refl, (refl, (refl, refl)))))))))))))))

  pub without-conflict : tests.conflict ≡ false → Without 0x02 list
  without-conflict k = (refl, (refl, (refl, (refl, (refl, (refl, (refl, (refl, (refl, (refl, (k, (refl, (refl, (refl, (refl, refl)))))))))))))))

  pub without-number : tests.number ≡ false → Without 0x06 list
  without-number v = (refl, (refl, (refl, (refl, (refl, (refl, (refl, (refl, (refl, (refl, (refl, (refl, (v, (refl, (refl, refl)))))))))))))))

  -- where it is the first that fails, its status is
  pub is-unstored : Passes (take 8 list) → tests.unstored ≡ true → status config b clock s ≡ 0x05
  unfolding first_failure
  is-unstored r u = later 8 list r ∙ rw u

  pub is-missing : Passes (take 8 list) → tests.unstored ≡ false → tests.missing ≡ true → status config b clock s ≡ 0x01
  unfolding first_failure
  is-missing r u m = later 8 list r ∙ rw (u, m)

  pub is-conflict : Passes (take 8 list) → tests.unstored ≡ false → tests.missing ≡ false → tests.conflict ≡ true
      → status config b clock s ≡ 0x02
  unfolding first_failure
  is-conflict r u m k = later 8 list r ∙ rw (u, m, k)

  -- the tests of 0x05, 0x01, 0x02 and 0x06, where the row isn't live
  module _ (n : NotLive (later_at b clock) (doc_at b (key_in s))) where
    pub unstored : among (opcode s) joins ≡ true → tests.unstored ≡ true
    unfolding tests_of
    unstored e = rw (join-joins e, dead-at b clock (doc_at b (key_in s)) n)

    pub missing : needs_live s ≡ true → tests.missing ≡ true
    unfolding tests_of
    missing e = rw (sought e, dead-at b clock (doc_at b (key_in s)) n)

    pub no-conflict : rule.beaten ≡ false → header_cas s ≡ 0 → tests.conflict ≡ false
    unfolding tests_of
    no-conflict e z = rw (e, unguarded z, dead-at b clock (doc_at b (key_in s)) n, and-false rule.fresh)

    pub no_number : tests.number ≡ false
    unfolding tests_of
    no_number = rw (dead-at b clock (doc_at b (key_in s)) n) (and-false rule.counts)

pub dead-is-missing : (config : Config) → DeadIsMissing config
dead-is-missing config b clock s room r n e =
    let first = is-missing config b clock s r.earlier (not-unstored config b clock s (needs-keyed s e)) (missing config b clock s n e) in
    let (len, a) = answers config b clock s room r 0x01 first in
    ((len, a), status-keeps config b clock s room 0x01 (24 + (header_of s).body) len r.bytes a (λ y. absurd (omega arith)))

pub dead-is-unstored : (config : Config) → DeadIsUnstored config
dead-is-unstored config b clock s room r n e =
    let (len, a) = answers config b clock s room r 0x05 (is-unstored config b clock s r.earlier (unstored config b clock s n e)) in
    ((len, a), status-keeps config b clock s room 0x05 (24 + (header_of s).body) len r.bytes a (λ y. absurd (omega arith)))

pub dead-is-written : (config : Config) → DeadIsWritten config
unfolding request_of
dead-is-written config b clock s room n e z =
    let (needs, beaten) = writes (seen config b clock s) (extras_in s) (opcode s) e in (
      avoids config b clock s room 0x01 (without-missing config b clock s (not-missing config b clock s needs z)),
      avoids config b clock s room 0x02 (without-conflict config b clock s (no-conflict config b clock s n beaten z)),
    )
