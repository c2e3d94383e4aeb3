use mathlib.Core.Path.{sym, ◌∙◌}
use borrow.Author.Tests.{le-ltb, lt-ltb, eqb-true, eqb-false, not-true, not-false}
use Rattle.rules.proofs.RuleLaws.{rules-count, field-broken, field-meta, field_plain, status-told}
use Rattle.rules.proofs.judge_fields.Goals as goal

pub returns-then-not-count_ok : goal.returns-then-not-count_ok
returns-then-not-count_ok g c =
    sym (field-broken _ _ _ (rules-count _ _ _ (rw c.extras.ensures at (sym c.count_ok.ensures ∙ c.if-not-count_ok.true))))

pub returns-then-has_meta : goal.returns-then-has_meta
returns-then-has_meta g c =
    let k = rw c.extras.ensures at (sym c.count_ok.ensures ∙ c.if-not-count_ok.false) in
    c.meta_status.ensures
    ∙ status-told _ _ _ _ c.stored.ensures
    ∙ sym (field-meta _ _ _ k (eqb-false _ 0 (not-true _ (sym c.has_meta.ensures ∙ c.if-has_meta.true))))

pub returns-then-too_long : goal.returns-then-too_long
returns-then-too_long g c =
    let k = rw c.extras.ensures at (sym c.count_ok.ensures ∙ c.if-not-count_ok.false) in
    let plain = eqb-true _ 0 (not-false _ (sym c.has_meta.ensures ∙ c.if-has_meta.false)) in
    sym (field_plain _ _ _ k plain ∙ simp (lt-ltb 1024 _ c.if-too_long.true))

pub returns : goal.returns
returns g c =
    let k = rw c.extras.ensures at (sym c.count_ok.ensures ∙ c.if-not-count_ok.false) in
    let plain = eqb-true _ 0 (not-false _ (sym c.has_meta.ensures ∙ c.if-has_meta.false)) in
    sym (field_plain _ _ _ k plain ∙ simp (le-ltb 1024 _ c.if-too_long.false))
