-- `fits` meets its contract.
use native.Mathlib.Omega.{arith}
use Prim.Native.Nat.{◌+◌, ◌-◌}
use mathlib.Core.Path.{sym, ◌∙◌}
use borrow.Author.Tests.{le-leb, lt-leb, leb-true, leb-false}
use lib.Dec.{leb}
use Rattle.octets.proofs.Choices.{cases}
use Rattle.trace_writer.proofs.fits.Goals as goal

-- `fits` meets its contract.
pub returns-then-room-a : goal.returns-then-room-a
returns-then-room-a c = let a = c.args in sym (lt-leb (a.a + a.b + a.c) a.room (omega arith))

pub returns-then-room-a-2 : goal.returns-then-room-a-2
returns-then-room-a-2 c = let a = c.args in sym (lt-leb (a.a + a.b + a.c) a.room (omega arith))

pub returns : goal.returns
returns c = let a = c.args in
    let left = a.room - a.a - a.b in
    cases (leb a.c left)
    (λ t. t ∙ sym (le-leb (a.a + a.b + a.c) a.room (omega (arith, leb-true a.c left t))))
    (λ f. f ∙ sym (lt-leb (a.a + a.b + a.c) a.room (omega (arith, leb-false a.c left f))))
