use mathlib.Core.Path.{sym, ◌∙◌}
use Rattle.octets.specs.Parts.{Bytes}
use Rattle.engines.proofs.Checks.{damaged-by, sound-by}
use Rattle.owner.proofs.Reading.{later-at, read-damaged, read_found}
use Rattle.owner.proofs.read.Goals as goal

pub returns-in_default : goal.returns-in_default
returns-in_default c = let a = c.args in
    sym (read-damaged a.config a.s.now a.clock a.key.now (damaged-by _ _ (sym c.checked.ensures ∙ c.in_default.is)))

pub returns : goal.returns
returns c =
    let a = c.args in
    let y : Bytes a.s.now = λ k. (c.type_inv.s k).fits in
    let whole = sound-by _ _ _ (sym c.checked.ensures ∙ c.in-Some.is) in
    read_found a.config a.s.now a.clock a.key.now _ _ _ y whole.0 (later-at a.s.now a.clock _ _ whole.1 c.later.ensures)
    c.find-lookup.ensures c.shown.ensures
