use Prim.Native.Nat.{◌+◌, ◌≤◌, ◌<◌}
use lib.ListN.{length}
use mathlib.Core.Path.{sym, ◌∙◌}
use native.Mathlib.Omega.{arith}
use borrow.Author.Tests.{leb-true, leb-false}
use Rattle.row_writer.proofs.Joined.{join-other, join-unfit, join_one}
use borrow.Author.Rules.{rules}
use Rattle.row_writer.proofs.join_row.Goals as goal

pub returns-then-row-ne-ROW : goal.returns-then-row-ne-ROW
returns-then-row-ne-ROW c =
    let a = c.args in
    join-other a.row.now a.k a.m a.value.now a.old a.side c.if-row-ne-ROW.true

pub returns-then-not-fits : goal.returns-then-not-fits
returns-then-not-fits c =
    let a = c.args in
    let h : 1280 < a.k + length a.value.now = leb-false _ _ (sym c.fits.ensures ∙ c.if-not-fits.true) in
    join-unfit a.row.now a.k a.m a.value.now a.old a.side c.if-row-ne-ROW.false (omega arith)

pub overflow_add-k : goal.overflow_add-k
overflow_add-k c =
    let a = c.args in
    let h : a.k + length a.value.now ≤ 1280 = leb-true _ _ (sym c.fits.ensures ∙ c.if-not-fits.false) in
    search rules

pub overflow_sub-k : goal.overflow_sub-k
overflow_sub-k c =
    let a = c.args in
    let h : a.k + length a.value.now ≤ 1280 = leb-true _ _ (sym c.fits.ensures ∙ c.if-not-fits.false) in
    search rules

pub returns-then-k-value : goal.returns-then-k-value
returns-then-k-value c =
    let a = c.args in
    join-unfit a.row.now a.k a.m a.value.now a.old a.side c.if-row-ne-ROW.false (omega arith)

pub put_joined-requires : goal.put_joined-requires
put_joined-requires c =
    let a = c.args in
    let h : a.k + length a.value.now ≤ 1280 = leb-true _ _ (sym c.fits.ensures ∙ c.if-not-fits.false) in
    (c.if-row-ne-ROW.false, omega arith)

pub returns : goal.returns
returns c =
    let a = c.args in
    c.put_joined.ensures ∙ sym (join_one a.row.now a.k a.m a.value.now a.old a.side c.if-row-ne-ROW.false)
