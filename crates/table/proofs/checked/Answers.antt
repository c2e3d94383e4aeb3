use mathlib.Core.Path.{sym, ◌∙◌}
use Rattle.table.proofs.Damage.{walk-damaged, keyed-sound, keys-equal, keys-differ}
use Rattle.table.proofs.checked.Goals as goal

pub returns-then-keyed : goal.returns-then-keyed
returns-then-keyed c =
    let a = c.args in
    let w = sym c.checked_rows.ensures ∙ c.in-Some.is in
    keyed-sound a.config a.b.now _ c.is_ordered-keyed.ensures _ w c.if-keyed.true

pub returns-then-not-is_distinct : goal.returns-then-not-is_distinct
returns-then-not-is_distinct c =
    let a = c.args in
    let w = sym c.checked_rows.ensures ∙ c.in-Some.is in
    keys-equal a.config a.b.now _ c.is_ordered-keyed.ensures _ w c.if-keyed.false
    (sym c.is_distinct.ensures ∙ c.if-not-is_distinct.true)

pub returns-in-None : goal.returns-in-None
returns-in-None c =
    let a = c.args in
    walk-damaged a.config a.b.now _ c.is_ordered-keyed.ensures (sym c.checked_rows.ensures ∙ c.in-None.is)

pub returns-else-not-is_distinct : goal.returns-else-not-is_distinct
returns-else-not-is_distinct c =
    let a = c.args in
    let w = sym c.checked_rows.ensures ∙ c.in-Some.is in
    keys-differ a.config a.b.now _ c.is_ordered-keyed.ensures _ w c.if-keyed.false
    (sym c.is_distinct.ensures ∙ c.if-not-is_distinct.false)
