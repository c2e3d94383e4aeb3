-- How the commands of frames stand to the tests, by their opcodes.
use Prim.Native.Nat.{ℕ}
use mathlib.Core.Path.{◌≡◌, refl, sym, ap, subst, ◌∙◌}
use mathlib.Core.Bool.{Bool, true, false, not, ◌&&◌, ◌||◌}
use mathlib.Core.List.{List, [], ◌∷◌, ◌++◌}
use mathlib.Core.Logic.{◌⊎◌, inl, inr}
use lib.Dec.{eqb}
use borrow.Author.Tests.{eqb-true}
use Rattle.octets.specs.BigEndian.{num}
use Rattle.octets.proofs.Choices.{cases, both, neither}
use Rattle.shape.specs.Shapes.{Shape, commands, unbuilt, among, shape_by, look_up, shape_of, Command as Known}
use Rattle.document.specs.declared.Side.{Side}
use Rattle.document.specs.declared.Side.TheVariants.{Front, Back}
use Rattle.with_meta.specs.WithMeta.{with_meta}
use Rattle.commands.specs.declared.Kind.{Kind}
use Rattle.commands.specs.declared.Kind.TheVariants.{Set, Add, Replace}
use Rattle.commands.specs.declared.MetaKind.{MetaKind}
use Rattle.commands.specs.declared.MetaKind.TheVariants.{Set as SetMeta, Add as AddMeta, Delete as DeleteMeta}
use Rattle.commands.specs.declared.Command.{Command}
use Rattle.commands.specs.declared.Command.TheVariants.{Get, Write, Delete, Count, Noop, Version, WithMeta, GetKeys, Join, Touch}
use Rattle.commands.specs.declared.Context.{Context}
use Rattle.commands.specs.Rules.{rule_of}
use Rattle.decode.specs.Decode.{plain_of, counter_of, touch_of, meta_command, command_of}
use Rattle.serving.proofs.Formed.{no}
use Rattle.promises.specs.Expiry.{gets, sets, adds, replaces, deletes, counters, with_metas, touches, appends, prepends, joins, keyed}

-- ---- what holds of each opcode of a list
module _ {ℓ} (P : ℕ → Type ℓ) where
  abbrev pub Each : List ℕ → Type ℓ
  Each [] = Unit {ℓ}
  Each (n ∷ ns) = P n × Each ns

  pub at-opcode : (n : ℕ) (l : List ℕ) → Each l → among n l ≡ true → P n
  unfolding among
  at-opcode n [] p e = no e
  at-opcode n (x ∷ l) p e = cases (eqb n x) (λ t. subst P (sym (eqb-true n x t)) p.0) (λ t. at-opcode n l p.1 (rw t at e))

-- a test that each of them passes, computed for all of them at once
module _ (f : ℕ → Bool) where
  abbrev pub all_pass : List ℕ → Bool
  all_pass [] = true
  all_pass (n ∷ ns) = f n && all_pass ns

  pub tested : (n : ℕ) (l : List ℕ) → all_pass l ≡ true → among n l ≡ true → f n ≡ true
  unfolding among
  tested n [] p e = no e
  tested n (x ∷ l) p e =
      let (here, there) = both (f x) (all_pass l) p in
      cases (eqb n x) (λ t. ap f (eqb-true n x t) ∙ here) (λ t. tested n l there (rw t at e))

-- ---- the command of an opcode with these extras, as a decision sees it
module _ (c : Context) (extras : List ℕ) where
  abbrev pub ask : ℕ → Command
  ask n = command_of (shape_of n).operation extras

  pub needs : (n : ℕ) → among n (gets ++ (replaces ++ (deletes ++ touches))) ≡ true → (rule_of c (ask n)).needs ≡ true
  unfolding shape_of command_of rule_of plain_of touch_of
  needs n e = tested (λ x. (rule_of c (ask x)).needs) n (gets ++ (replaces ++ (deletes ++ touches))) refl e

  pub guarded : (n : ℕ) → among n keyed ≡ true → ((rule_of c (ask n)).guarded || (rule_of c (ask n)).needs) ≡ true
  unfolding shape_of command_of rule_of plain_of counter_of touch_of meta_command
  guarded n e = tested (λ x. (rule_of c (ask x)).guarded || (rule_of c (ask x)).needs) n keyed refl e

  -- none of them joins
  pub joinless : (n : ℕ) → among n keyed ≡ true → not (rule_of c (ask n)).joins ≡ true
  unfolding shape_of command_of rule_of plain_of counter_of touch_of meta_command
  joinless n e = tested (λ x. not (rule_of c (ask x)).joins) n keyed refl e

  -- a Get's whole rule
  abbrev Reads : ℕ → Type 0
  Reads n = (k : Bool) × (ask n ≡ Get k)

  pub reads : (n : ℕ) → among n gets ≡ true → Reads n
  unfolding shape_of command_of
  reads n e = at-opcode Reads n gets ((false, refl), ((false, refl), ((true, refl), ((true, refl), tt)))) e

  -- a Set or an Add needs nothing and is compared with nothing
  abbrev Writes : ℕ → Type 0
  Writes n = ((rule_of c (ask n)).needs ≡ false) × ((rule_of c (ask n)).beaten ≡ false)

  pub writes : (n : ℕ) → among n (sets ++ adds) ≡ true → Writes n
  unfolding shape_of command_of rule_of plain_of
  writes n e = at-opcode Writes n (sets ++ adds) ((refl, refl), ((refl, refl), ((refl, refl), ((refl, refl), tt)))) e

  -- a Set, an Add or a Replace
  abbrev Stores : ℕ → Type 0
  Stores n = (k : Kind) × (ask n ≡ Write (record { kind = k; flags = num extras 0 4; expiry = num extras 4 4 }))

  pub stores : (n : ℕ) → among n (sets ++ (adds ++ replaces)) ≡ true → Stores n
  unfolding shape_of command_of plain_of
  stores n e =
      at-opcode Stores n (sets ++ (adds ++ replaces))
      ((Set, refl), ((Set, refl), ((Add, refl), ((Add, refl), ((Replace, refl), ((Replace, refl), tt)))))) e

  -- an Add is refused on a live document
  abbrev Adds : ℕ → Type 0
  Adds n = ((rule_of c (ask n)).needs ≡ false) × (((rule_of c (ask n)).beaten ≡ false) × ((rule_of c (ask n)).fresh ≡ true))

  pub added : (n : ℕ) → among n adds ≡ true → Adds n
  unfolding shape_of command_of rule_of plain_of
  added n e = at-opcode Adds n adds ((refl, (refl, refl)), ((refl, (refl, refl)), tt)) e

  -- Increment and Decrement
  abbrev Counts : ℕ → Type 0
  Counts n =
      (up : Bool) × (ask n ≡ Count (record { up = up; delta = num extras 0 8; initial = num extras 8 8; expiry = num extras 16 4 }))

  pub counts : (n : ℕ) → among n counters ≡ true → Counts n
  unfolding shape_of command_of counter_of
  counts n e = at-opcode Counts n counters ((true, refl), ((true, refl), ((false, refl), ((false, refl), tt)))) e

  -- with-meta: compared unless an option says otherwise
  abbrev Carries : ℕ → Type 0
  Carries n = (k : MetaKind) × (ask n ≡ meta_command k (with_meta extras))

  pub carries : (n : ℕ) → among n with_metas ≡ true → Carries n
  unfolding shape_of command_of
  carries n e =
      at-opcode Carries n with_metas
      ((SetMeta, refl), ((SetMeta, refl), ((AddMeta, refl), ((AddMeta, refl), ((DeleteMeta, refl), ((DeleteMeta, refl), tt)))))) e

  -- Append and Prepend, at the back and at the front of the stored value
  abbrev JoinsAt : Side → ℕ → Type 0
  JoinsAt side n = ask n ≡ Join side

  pub appending : (n : ℕ) → among n appends ≡ true → JoinsAt Back n
  unfolding shape_of command_of
  appending n e = at-opcode (JoinsAt Back) n appends (refl, (refl, tt)) e

  pub prepending : (n : ℕ) → among n prepends ≡ true → JoinsAt Front n
  unfolding shape_of command_of
  prepending n e = at-opcode (JoinsAt Front) n prepends (refl, (refl, tt)) e

  -- either of them
  abbrev JoinsAny : ℕ → Type 0
  JoinsAny n = (side : Side) × JoinsAt side n

  pub joining : (n : ℕ) → among n joins ≡ true → JoinsAny n
  unfolding shape_of command_of
  joining n e = at-opcode JoinsAny n joins ((Back, refl), ((Back, refl), ((Front, refl), ((Front, refl), tt)))) e

  -- Touch and Get-and-touch
  abbrev TouchesAt : ℕ → Type 0
  TouchesAt n = (shown : Bool) × (ask n ≡ Touch (record { expiry = num extras 0 4; shown = shown }))

  pub touching : (n : ℕ) → among n touches ≡ true → TouchesAt n
  unfolding shape_of command_of touch_of
  touching n e = at-opcode TouchesAt n touches ((false, refl), ((true, refl), tt)) e

  -- the second one's reply shows the document
  abbrev ShowsAt : ℕ → Type 0
  ShowsAt n = ask n ≡ Touch (record { expiry = num extras 0 4; shown = eqb n 0x1d })

  pub showing : (n : ℕ) → among n touches ≡ true → ShowsAt n
  unfolding shape_of command_of touch_of
  showing n e = at-opcode ShowsAt n touches (refl, (refl, tt)) e

-- ---- commands but the with-meta ones
abbrev pub IsPlain : Command → Type 0
IsPlain (Get k) = Unit {0}
IsPlain (Write p) = Unit {0}
IsPlain Delete = Unit {0}
IsPlain (Count k) = Unit {0}
IsPlain Noop = Unit {0}
IsPlain Version = Unit {0}
IsPlain (WithMeta w) = ⊥
IsPlain (GetKeys n) = Unit {0}
IsPlain (Join side) = Unit {0}
IsPlain (Touch t) = Unit {0}

module _ (op : ℕ) (extras : List ℕ) where
  abbrev PlainShape : Shape → Type 0
  PlainShape x = IsPlain (command_of x.operation extras)

  -- each is plain, or has another opcode
  abbrev EachPlain : List Known → Type 0
  EachPlain [] = Unit {0}
  EachPlain (c ∷ cs) = (PlainShape (shape_by c.operation c.form false) ⊎ ((eqb op c.loud ≡ false) × (among op c.quiet ≡ false))) × EachPlain cs

  looked-up : (cs : List Known) (other : Shape) → EachPlain cs → PlainShape other → PlainShape (look_up op cs other)
  unfolding look_up
  looked-up [] other e p = p
  looked-up (c ∷ cs) other (inl q, e) p =
      cases (eqb op c.loud) (λ l. rw l q) (λ l. cases (among op c.quiet) (λ k. rw (l, k) q) (λ k. rw (l, k) (looked-up cs other e p)))
  looked-up (c ∷ cs) other (inr (l, k), e) p = rw (l, k) (looked-up cs other e p)

  pub plain-asked : among op with_metas ≡ false → PlainShape (shape_of op)
  unfolding shape_of among command_of plain_of counter_of touch_of
  plain-asked e =
      let (a2, e) = neither (eqb op 0xa2) _ e in
      let (a3, e) = neither (eqb op 0xa3) _ e in
      let (a4, e) = neither (eqb op 0xa4) _ e in
      let (a5, e) = neither (eqb op 0xa5) _ e in
      let (a8, e) = neither (eqb op 0xa8) _ e in
      let (a9, e) = neither (eqb op 0xa9) _ e in
      looked-up commands _ (
        inl tt,
        (
          inl tt,
          (
            inl tt,
            (
              inl tt,
              (inl tt, (inl tt, (inl tt, (inl tt, (inl tt, (inl tt, (inr (a2, rw a3), (inr (a4, rw a5), (inr (a8, rw a9), (inl tt, (inl tt, (inl tt, (inl tt, (inl tt, tt)))))))))))))),
            ),
          ),
        ),
      )
      (cases (among op unbuilt) (λ t. rw t tt) (λ t. rw t tt))
