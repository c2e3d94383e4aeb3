-- A command that doesn't write stores nothing. Whether a row is free matters only to a write for a key without a row.
use mathlib.Core.Path.{◌≡◌, refl}
use mathlib.Core.Bool.{Bool, true, false, true≢false, cond}
use lib.Dec.{eqb}
use Rattle.std.specs.Prelude.{None}
use Rattle.document.specs.Stored.{has_row}
use Rattle.commands.specs.declared.Context.{Context}
use Rattle.commands.specs.declared.Instruction.{Instruction}
use Rattle.effects.specs.declared.Done.{Done}
use Rattle.commands.specs.declared.Command.{Command}
use Rattle.commands.specs.declared.Command.TheVariants.{Get, Write, Delete, Count, Noop, Version, WithMeta, GetKeys, Join, Touch}
use Rattle.effects.specs.declared.Reply.TheVariants.{Bare}
use Rattle.commands.specs.Rules.{rule_of, tests_of}
use Rattle.effects.specs.Done.{nothing, done_of}
use Rattle.decision.specs.Decision.{decision}
use Rattle.commands.specs.Writes.{is_mutation}

either-none : (t : Bool) (x y : Done) → x.store ≡ None → y.store ≡ None → (cond t x y).store ≡ None
either-none true x y p q = p
either-none false x y p q = q

module _ (c : Context) (i : Instruction) where
  abbrev free_as : Bool → Context
  free_as free = record { head = c.head; row = c.row; free = free; clock = c.clock; number = c.number; size = c.size }

  unread-by : (free : Bool) (x : Command) → i.command ≡ x → is_mutation x ≡ false → decision c i ≡ decision (free_as free) i
  unfolding decision rule_of tests_of done_of
  unread-by free (Get keyed) e w = rw e
  unread-by free (Write p) e w = absurd (true≢false w)
  unread-by free Delete e w = absurd (true≢false w)
  unread-by free (Count k) e w = absurd (true≢false w)
  unread-by free Noop e w = rw e
  unread-by free Version e w = rw e
  unread-by free (WithMeta m) e w = absurd (true≢false w)
  unread-by free (GetKeys n) e w = rw e
  unread-by free (Join side) e w = absurd (true≢false w)
  unread-by free (Touch t) e w = absurd (true≢false w)

  done_none : (x : Command) → is_mutation x ≡ false → (done_of c x).store ≡ None
  unfolding done_of
  done_none (Get keyed) w = refl
  done_none (Write p) w = absurd (true≢false w)
  done_none Delete w = absurd (true≢false w)
  done_none (Count k) w = absurd (true≢false w)
  done_none Noop w = refl
  done_none Version w = refl
  done_none (WithMeta m) w = absurd (true≢false w)
  done_none (GetKeys n) w = refl
  done_none (Join side) w = absurd (true≢false w)
  done_none (Touch t) w = absurd (true≢false w)

  free-rule : (free : Bool) (x : Command) → rule_of c x ≡ rule_of (free_as free) x
  unfolding rule_of
  free-rule free (Get keyed) = refl
  free-rule free (Write p) = refl
  free-rule free Delete = refl
  free-rule free (Count k) = refl
  free-rule free Noop = refl
  free-rule free Version = refl
  free-rule free (WithMeta m) = refl
  free-rule free (GetKeys n) = refl
  free-rule free (Join side) = refl
  free-rule free (Touch t) = refl

  free-done : (free : Bool) (x : Command) → done_of c x ≡ done_of (free_as free) x
  unfolding done_of
  free-done free (Get keyed) = refl
  free-done free (Write p) = refl
  free-done free Delete = refl
  free-done free (Count k) = refl
  free-done free Noop = refl
  free-done free Version = refl
  free-done free (WithMeta m) = refl
  free-done free (GetKeys n) = refl
  free-done free (Join side) = refl
  free-done free (Touch t) = refl

  pub free-with-row : (free : Bool) → has_row c.row ≡ true → decision c i ≡ decision (free_as free) i
  unfolding decision tests_of
  free-with-row free h = rw (free-rule free i.command, free-done free i.command, h)

  pub free-unread : (free : Bool) → is_mutation i.command ≡ false → decision c i ≡ decision (free_as free) i
  free-unread free w = unread-by free i.command refl w

  pub stores-none : is_mutation i.command ≡ false → (decision c i).done.store ≡ None
  unfolding decision
  stores-none w =
      either-none (eqb (decision c i).status 0) (done_of c i.command) (nothing c.head Bare (record { 0 = 0 }))
      (done_none i.command w) refl
