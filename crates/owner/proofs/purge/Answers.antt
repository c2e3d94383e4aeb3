use mathlib.Core.Path.{sym, ◌∙◌}
use Rattle.octets.specs.Parts.{Bytes}
use Rattle.owner.proofs.Reading.{purge-refused, purge-stepped}
use borrow.Author.Rules.{rules}
use Rattle.owner.proofs.purge.Goals as goal

pub returns-then-not-is_sound : goal.returns-then-not-is_sound
returns-then-not-is_sound c = let a = c.args in
    purge-refused a.config a.s.now a.clock a.bound.0 (sym c.is_sound.ensures ∙ c.if-not-is_sound.true)

pub returns : goal.returns
returns c =
    let step = c.purge_step in
    let a = c.args in
    let y : Bytes a.s.now = λ k. search rules in
    purge-stepped a.config a.s.now a.clock a.bound.0 _ _ y c.ranges.clock.fits (sym c.is_sound.ensures ∙ c.if-not-is_sound.false)
    step.ensures.0 step.ensures.1
