use borrow.Author.Rules.{rules}
use mathlib.Core.Path.{◌≡◌, sym, ap, ◌∙◌}
use mathlib.Core.Bool.{false}
use mathlib.Core.List.{[]}
use Prim.Native.Nat.{ℕ, ◌+◌, ◌<◌}
use lib.ListN.{length, drop}
use Rattle.std.proofs.lemmas.List.{nil_from_length}
use Rattle.with_meta.specs.Section.{field_ok, field_size, fields_ok}
use Rattle.with_meta.proofs.SectionLaws.{fields-end, fields-next, fields-stop}
use Rattle.with_meta.proofs.fields_ok.Goals as goal

pub returns-then-not-field_ok : goal.returns-then-not-field_ok
returns-then-not-field_ok c =
    let l = c.loop-left.left.now in
    let some : 0 < length l = search rules in
    let no : field_ok l ≡ false = search rules in
    sym (c.loop-left.invariant ∙ fields-stop l some no)

pub loop-left-preserved : goal.loop-left-preserved
loop-left-preserved c =
    let l = c.loop-left.left.now in
    let some : 0 < length l = search rules in
    let n : 3 + c.be16.result ≡ field_size l = unfold field_size in ap (λ (k : ℕ). 3 + k) c.be16.ensures in
    c.loop-left.invariant ∙ fields-next l some (sym c.field_ok.ensures ∙ c.if-not-field_ok.false)
    ∙ sym (ap fields_ok (c.rest-left.ensures ∙ ap (λ (k : ℕ). drop k l) n))

pub returns : goal.returns
returns c =
    let none : c.loop-left.left.now ≡ [] = nil_from_length _ (search rules) in
    sym (c.loop-left.invariant ∙ ap fields_ok none ∙ fields-end)
