use mathlib.Core.Path.{sym, ◌∙◌}
use native.Mathlib.Omega.{arith}
use Prim.Native.Nat.{◌+◌, ◌≤◌, ◌<◌}
use lib.ListN.{length}
use borrow.Author.Tests.{leb-true}
use Rattle.document.specs.Documents.{Entry}
use Rattle.rows.specs.Table.{row_count}
use Rattle.ordered_writer.proofs.Moving.{insert-done, insert-past, insert-nowhere, insert-unfit}
use Rattle.ordered_writer.proofs.insert_row.Goals as goal

pub returns-then-free-i : goal.returns-then-free-i
returns-then-free-i c =
    let a = c.args in
    let e : Entry = record { key = a.key.now; doc = record { tomb = a.m.tomb; value = a.value.now; numbers = a.m.numbers } } in
    insert-past a.b.now a.i a.free e c.if-free-i.true

pub returns-then-free-rows_in : goal.returns-then-free-rows_in
returns-then-free-rows_in c =
    let a = c.args in
    let e : Entry = record { key = a.key.now; doc = record { tomb = a.m.tomb; value = a.value.now; numbers = a.m.numbers } } in
    insert-nowhere a.b.now a.i a.free e (rw c.rows_in.ensures at c.if-free-rows_in.true)

pub returns-then-not-fits : goal.returns-then-not-fits
returns-then-not-fits c =
    let a = c.args in
    let e : Entry = record { key = a.key.now; doc = record { tomb = a.m.tomb; value = a.value.now; numbers = a.m.numbers } } in
    insert-unfit a.b.now a.i a.free e (sym c.fits.ensures ∙ c.if-not-fits.true)

pub move_rows-requires : goal.move_rows-requires
move_rows-requires c =
    let a = c.args in
    let k : a.free < row_count a.b.now = rw c.rows_in.ensures at c.if-free-rows_in.false in
    omega arith

pub overflow_sub-key : goal.overflow_sub-key
overflow_sub-key c =
    let a = c.args in
    let h : length a.key.now + length a.value.now ≤ 1280 = leb-true _ _ (sym c.fits.ensures ∙ c.if-not-fits.false) in
    omega arith

pub returns : goal.returns
returns c =
    let a = c.args in
    let e : Entry = record { key = a.key.now; doc = record { tomb = a.m.tomb; value = a.value.now; numbers = a.m.numbers } } in
    let h : length a.key.now + length a.value.now ≤ 1280 = leb-true _ _ (sym c.fits.ensures ∙ c.if-not-fits.false) in
    let k : a.free < row_count a.b.now = rw c.rows_in.ensures at c.if-free-rows_in.false in
    insert-done e h a.b.now a.i a.free c.if-free-i.false k _ _ c.move_rows.ensures c.store.ensures
