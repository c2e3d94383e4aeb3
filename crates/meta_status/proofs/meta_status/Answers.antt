use denote.Enum.Bare.{sameb}
use mathlib.Core.Path.{◌≡◌, refl}
use Rattle.numbers.specs.contracts.Mode.{the_type}
use Rattle.numbers.specs.declared.Mode.{Mode}
use Rattle.numbers.specs.declared.Mode.TheVariants.{ByRevision, LastWrite}
use Rattle.numbers.specs.Order.{mode_of}
use Rattle.commands.specs.Rules.{is_last, tests_of}
use Rattle.meta_status.proofs.meta_status.Goals as goal

-- the derived comparison with last-write-wins is the definitions' test
same-last : (m : Mode) → sameb the_type m LastWrite ≡ is_last m
same-last ByRevision = refl
same-last LastWrite = refl

pub returns : goal.returns
unfolding tests_of
returns c =
    simp (
      c.first_status.ensures,
      c.is_here.ensures,
      c.is_long.ensures,
      c.has_room.ensures,
      c.stored.ensures,
      c.is_live-live.ensures,
      c.is_guarded-guard.ensures,
      c.accepted-wins.ensures,
      c.eq-last.ensures,
      same-last (mode_of c.args.c.head.mode),
      c.mode_of-mode.ensures,
    )
