-- `move_up` meets its contract.
use Prim.Native.Nat.{◌+◌, ◌≤◌, ◌<◌}
use borrow.Author.Tests.{leb-true, leb-false}
use Rattle.octets.proofs.Lists.{move-fits, move-unfit}
use borrow.Author.Rules.{rules}
use lib.ListN.{length}
use mathlib.Core.Path.{sym, ◌∙◌}
use native.Mathlib.Omega.{arith}
use Rattle.octet_writer.proofs.move_up.Goals as goal

pub returns-then-not-fits : goal.returns-then-not-fits
returns-then-not-fits c =
    let a = c.args in
    let h : length a.out.now < a.at + a.n = leb-false _ _ (sym c.fits.ensures ∙ c.if-not-fits.true) in
    move-unfit a.out.now a.at a.n a.by (omega arith)

pub overflow_add-at : goal.overflow_add-at
overflow_add-at c =
    let a = c.args in
    let h : a.at + a.n ≤ length a.out.now = leb-true _ _ (sym c.fits.ensures ∙ c.if-not-fits.false) in
    search rules

pub move_run-requires : goal.move_run-requires
move_run-requires c = leb-true _ _ (sym c.fits-2.ensures ∙ c.if-fits.true)

pub returns-then-fits : goal.returns-then-fits
returns-then-fits c =
    let a = c.args in
    let h = leb-true _ _ (sym c.fits-2.ensures ∙ c.if-fits.true) in
    move-fits a.out.now _ a.at a.n a.by h c.move_run.ensures

pub returns-else-fits : goal.returns-else-fits
returns-else-fits c =
    let a = c.args in
    move-unfit a.out.now a.at a.n a.by (leb-false _ _ (sym c.fits-2.ensures ∙ c.if-fits.false))
