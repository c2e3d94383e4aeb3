use mathlib.Core.Bool.{◌&&◌}
use Rattle.rows.specs.declared.Slot.{Slot}
use Rattle.octets.specs.Compare.{zeros}
use Rattle.rows.proofs.OneRow.{sound-free, sound-used}
use Rattle.rows.specs.RowRules.{used_ok}
use lib.ListN.{drop}
use Prim.Native.Nat.{◌+◌}
use Rattle.rows.specs.Row.{slot_of}
use mathlib.Core.Path.{sym, ap, ◌∙◌}
use Rattle.rows.proofs.damage.row_sound.Goals as goal

pub returns-then-be16-eq0 : goal.returns-then-be16-eq0
returns-then-be16-eq0 c = let a = c.args in c.all_zero.ensures ∙ sym (sound-free a.r.now a.mark (sym c.be16.ensures ∙ c.if-be16-eq0.true))

pub returns : goal.returns
unfolding slot_of
returns c =
    let r = c.args.r.now in
    let mark = c.args.mark in
    (λ i. c.used_ok.ensures i && (c.zero_run.ensures ∙ ap zeros c.rest.ensures) i)
    ∙ ap (λ (h : Slot). used_ok mark h && zeros (drop (32 + (h.keylen + h.vallen)) r)) c.slot-s.ensures
    ∙ sym (sound-used r mark (λ z. c.if-be16-eq0.false (c.be16.ensures ∙ z)))
