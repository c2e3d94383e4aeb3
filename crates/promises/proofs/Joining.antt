-- What order 4's commands do to a document: a value joined to its own, or a new expiry, each a plain write with new CAS and revision.
use Prim.Native.Nat.{ℕ, ◌+◌, ◌-◌, ◌^◌, ◌<◌}
use native.Mathlib.Omega.{arith}
use mathlib.Core.Path.{◌≡◌, refl, sym, ap, ◌∙◌}
use mathlib.Core.Bool.{Bool, true, false}
use mathlib.Core.List.{List}
use Rattle.std.specs.Prelude.{Some}
use lib.Dec.{eqb}
use borrow.Author.Tests.{eqb-false}
use Rattle.engine.specs.declared.Config.{Config}
use Rattle.octets.specs.Parts.{Bytes, part}
use Rattle.octets.specs.BigEndian.{num}
use Rattle.octets.proofs.Choices.{neither}
use Rattle.numbers.specs.Growth.{next}
use Rattle.numbers.specs.Expiry.{absolute}
use Rattle.document.specs.declared.Side.{Side}
use Rattle.document.specs.declared.Side.TheVariants.{Front, Back}
use Rattle.document.specs.Documents.{Doc, doc_value, joined}
use Rattle.document.specs.Stored.{numbers_of}
use Rattle.shape.specs.Shapes.{among, shape_of}
use Rattle.header.specs.Header.{header_of}
use Rattle.rules.specs.Rules.{meta_size}
use Rattle.request.specs.Reading.{value_span}
use Rattle.commands.specs.declared.Command.TheVariants.{Join, Touch}
use Rattle.commands.specs.Rules.{rule_of, tests_of}
use Rattle.effects.specs.Done.{done_of, plain_numbers}
use Rattle.decode.specs.Decode.{bare_value, request_of}
use Rattle.rows.specs.Table.{head_of, table_of, clock_at}
use Rattle.engines.specs.Claims.{GoodBy}
use Rattle.engines.proofs.Tables.{sound-good-by}
use Rattle.serving.proofs.Gated.{was-open}
use Rattle.promises.specs.Merge.{doc_at}
use Rattle.promises.specs.Kept.{later_at}
use Rattle.promises.specs.Expiry.{opcode, extras_in, key_in, value_in, mark_in, joins, Answers, PlainlyWritten, Joins, LiveJoins, Touches, LiveTouches}
use Rattle.promises.proofs.Asks.{at-opcode, joining, appending, prepending, touching}
use Rattle.promises.proofs.Liveness.{was-whole}
use Rattle.promises.proofs.Dead.{seen, command, rule}
use Rattle.promises.proofs.Counting.{until-later, unfailing, faultless, does, done_at}
use Rattle.promises.proofs.Buried.{found-good}

-- ---- a plain write over a document
-- what it stores of one whose flags stay
abbrev over : Config → List ℕ → ℕ → List ℕ → ℕ → List ℕ → Doc
over config b clock s expiry value =
    record { tomb = false; value = value; numbers = plain_numbers (seen config b clock s) (numbers_of (seen config b clock s).row).flags expiry }

-- the mark, in the memory's bytes
marked : (b : List ℕ) → (table_of b).head.mark.0 ≡ mark_in b
unfolding table_of head_of
marked b = refl

-- what grows isn't at its end, so it is one more
one_more : (n : ℕ) → n < 2 ^ 64 → eqb n 0xffffffffffffffff ≡ false → next n ≡ n + 1
one_more n l e = let low : n ≡ 0xffffffffffffffff → ⊥ = eqb-false n 0xffffffffffffffff e in omega arith

module _ (config : Config) (b : List ℕ) (clock : ℕ) (s : List ℕ) (room : ℕ) (d : Doc) (y : Bytes b) (there : doc_at b (key_in s) ≡ Some d) (a : Answers config b clock s room 0)
    (revises : (rule config b clock s).revises ≡ true) (marks : (rule config b clock s).marks ≡ true) where
  good : GoodBy config (table_of b)
  good = let (len, e) = a in (sound-good-by config b y (was-open config b s room (header_of s) (was-whole config b clock s room 0 _ len e)).undamaged).1

  unspent : (eqb d.numbers.revision.0 0xffffffffffffffff ≡ false) × (eqb (table_of b).head.mark.0 0xffffffffffffffff ≡ false)
  unfolding tests_of
  unspent = neither _ _ (rw (revises, marks, there) at (unfailing config b clock s room a).spent)

  plainly-written : (expiry : ℕ) (value : List ℕ) → PlainlyWritten (mark_in b) d (over config b clock s expiry value)
  plainly-written expiry value =
      let entry = found-good (table_of b).head.mark.0 (table_of b).rows (key_in s) d good.good.rows there in
      record {
        document = refl;
        flags = rw there;
        revision = rw there (one_more d.numbers.revision.0 entry.revision unspent.0);
        cas = one_more (table_of b).head.mark.0 good.good.mark unspent.1 ∙ ap (λ (n : ℕ). n + 1) (marked b);
      }

-- ---- Append and Prepend
-- what follows the key is their value
no-meta : (s : List ℕ) → among (opcode s) joins ≡ true → (shape_of (opcode s)).meta ≡ 0
unfolding shape_of
no-meta s e = at-opcode (λ n. (shape_of n).meta ≡ 0) (opcode s) joins (refl, (refl, (refl, (refl, tt)))) e

value-asked : (forcing : Bool) (s : List ℕ) → among (opcode s) joins ≡ true → (request_of forcing s (header_of s)).value ≡ value_in s
unfolding request_of bare_value meta_size
value-asked forcing s e =
    let all : (value_span (header_of s)).len - 0 ≡ (value_span (header_of s)).len = omega arith in
    rw (no-meta s e) (ap (part s (value_span (header_of s)).at) all)

module _ (config : Config) (b : List ℕ) (clock : ℕ) (s : List ℕ) (room : ℕ) (d : Doc) (y : Bytes b) (there : doc_at b (key_in s) ≡ Some d) (a : Answers config b clock s room 0)
    (side : Side) (asks : command config b clock s ≡ Join side) where
  abbrev joint : Doc
  joint = over config b clock s (numbers_of (seen config b clock s).row).expiry (joined side (doc_value (doc_at b (key_in s))) (request_of config.forcing s (header_of s)).value)

  joins-it : does config b clock s ≡ Some joint
  unfolding done_of
  joins-it = rw asks

  joins_at : among (opcode s) joins ≡ true → (at : Side) → Join side ≡ Join at → Joins (mark_in b) (joined at d.value (value_in s)) d joint
  unfolding rule_of
  joins_at e at z = record {
    written = plainly-written config b clock s room d y there a (rw asks) (rw asks) _ _;
    expiry = rw there;
    value = let same : side ≡ at = cc in λ i. joined (same i) (doc_value (there i)) (value-asked config.forcing s e i);
  }

pub live_joins : (config : Config) → LiveJoins config
unfolding request_of
live_joins config b clock s room d y z small there e a =
    let (side, asks) = joining (seen config b clock s) (extras_in s) (opcode s) e in
    let at = joins_at config b clock s room d y there a side asks e in (
      joint config b clock s room d y there a side asks,
      (
        done_at config b clock s room _ (joins-it config b clock s room d y there a side asks) y z small a,
        (
          λ back. at Back (sym asks ∙ appending (seen config b clock s) (extras_in s) (opcode s) back),
          λ front. at Front (sym asks ∙ prepending (seen config b clock s) (extras_in s) (opcode s) front),
        ),
      ),
    )

-- ---- Touch and Get-and-touch
module _ (config : Config) (b : List ℕ) (clock : ℕ) (s : List ℕ) (room : ℕ) (d : Doc) (y : Bytes b) (there : doc_at b (key_in s) ≡ Some d) (a : Answers config b clock s room 0)
    (shown : Bool) (asks : command config b clock s ≡ Touch (record { expiry = num (extras_in s) 0 4; shown = shown })) where
  abbrev touched : Doc
  touched = over config b clock s (absolute (num (extras_in s) 0 4) (clock_at (table_of b) clock)) (doc_value (doc_at b (key_in s)))

  touches-it : does config b clock s ≡ Some touched
  unfolding done_of
  touches-it = rw asks

  touches_at : Touches (mark_in b) (num (extras_in s) 0 4) (later_at b clock) d touched
  unfolding rule_of
  touches_at = record {
    written = plainly-written config b clock s room d y there a (rw asks) (rw asks) _ _;
    expiry = until-later b clock (num (extras_in s) 0 4) (rw asks at (faultless config b clock s room a));
    value = ap doc_value there;
  }

pub live-touches : (config : Config) → LiveTouches config
unfolding request_of
live-touches config b clock s room d y z small there e a =
    let (shown, asks) = touching (seen config b clock s) (extras_in s) (opcode s) e in
    (_, (done_at config b clock s room _ (touches-it config b clock s room d y there a shown asks) y z small a, touches_at config b clock s room d y there a shown asks))
