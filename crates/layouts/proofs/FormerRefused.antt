-- The 2012 layout carries no option, and last-write-wins asks for one.
use Prim.Native.Nat.{ℕ, ◌+◌, ◌≤◌}
use mathlib.Core.Path.{◌≡◌, refl, sym, ◌∙◌}
use mathlib.Core.Bool.{true}
use mathlib.Core.List.{List}
use native.Mathlib.Omega.{arith}
use lib.ListN.{length}
use lib.Dec.{eqb}
use borrow.Author.Tests.{le-ltb, eqb-true}
use Rattle.octets.proofs.Choices.{cases}
use Rattle.octets.proofs.Lists.{part_length}
use Rattle.numbers.specs.Order.{mode_of}
use Rattle.numbers.specs.declared.Mode.TheVariants.{LastWrite}
use Rattle.shape.specs.Shapes.{among, shape_of}
use Rattle.header.specs.declared.Header.{Header}
use Rattle.header.specs.Header.{header_of}
use Rattle.with_meta.specs.WithMeta.{options_of, with_meta}
use Rattle.rules.specs.Rules.{form_ok, field_rules_ok}
use Rattle.request.proofs.Gated.{whole-frame}
use Rattle.request.specs.Reading.{extras_span, value_span, bytes_in}
use Rattle.commands.specs.declared.Context.{Context}
use Rattle.commands.specs.Rules.{rule_of, tests_of, first_failure}
use Rattle.decode.specs.Decode.{meta_command, request_of}
use Rattle.engine.specs.declared.Config.{Config}
use Rattle.rows.specs.Table.{Table, table_of, table_at, clock_at}
use Rattle.serving.specs.Serve.{gate_all, decision_on, frame_effect, served}
use Rattle.serving.specs.Statuses.{tests_on}
use Rattle.serving.proofs.Statuses.{statuses-in-order}
use Rattle.promises.specs.Expiry.{with_metas}
use Rattle.promises.proofs.Asks.{tested, ask, carries}
use Rattle.layouts.specs.Layouts.{FormerRefused}
use Rattle.layouts.proofs.EitherLayout.{inside}

-- extras of 25 bytes have no options
no-options : (extras : List ℕ) → length extras ≡ 25 → (with_meta extras).options ≡ 0
unfolding with_meta options_of
no-options extras e = rw e

-- a with-meta command is built
built : (n : ℕ) → among n with_metas ≡ true → (shape_of n).status ≡ 0
unfolding shape_of
built n e = eqb-true (shape_of n).status 0 (tested (λ x. eqb (shape_of x).status 0) n with_metas refl e)

-- and without option 0x02 it is against the rules in last-write-wins
faulty : (c : Context) (n : ℕ) (extras : List ℕ) → among n with_metas ≡ true → (with_meta extras).options ≡ 0 → mode_of c.head.mode ≡ LastWrite
    → (rule_of c (ask c extras n)).fault ≡ true
unfolding rule_of meta_command
faulty c n extras m o l = let (k, e) = carries c extras n m in rw (e, o, l)

module _ (config : Config) (t : Table) (clock : ℕ) (s : List ℕ) (h : Header) (whole : 24 + h.body ≤ length s)
    (command : among h.opcode with_metas ≡ true) (size : h.extlen ≡ 25) (last : mode_of t.head.mode ≡ LastWrite) where
  abbrev extras : List ℕ
  extras = bytes_in s (extras_span h)

  at-fault : form_ok (shape_of h.opcode) h ≡ true → (tests_on config t clock s h).fault ≡ true
  unfolding tests_of request_of extras_span
  at-fault f =
      faulty _ h.opcode extras command (no-options extras (part_length s 24 h.extlen (omega (arith, inside s h whole f)) ∙ size)) last

  refused : (decision_on config t clock s h).status ≡ 0x04
  unfolding first_failure
  refused =
      sym (statuses-in-order config t clock s h)
      ∙ cases (form_ok (shape_of h.opcode) h)
      (λ f. cases (field_rules_ok (shape_of h.opcode) extras (bytes_in s (value_span h)))
      (λ g. rw (f, g, at-fault f, built h.opcode command))
      (λ g. rw (f, g, built h.opcode command)))
      (λ f. rw (f, built h.opcode command))

pub former-refused : (config : Config) → FormerRefused config
unfolding served gate_all frame_effect
former-refused config b clock s room sound roomy last whole command size =
    rw (sound, le-ltb room 1302 roomy, whole)
    (refused config (table_at (table_of b) clock) (clock_at (table_of b) clock) s (header_of s) (whole-frame s (header_of s) whole).inside command size last)
