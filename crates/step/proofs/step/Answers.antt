use borrow.Author.Rules.{rules}
use mathlib.Core.Path.{refl, sym, ap, ◌∙◌}
use Rattle.request.specs.Reading.{gate_told}
use Rattle.request.proofs.Gated.{whole-frame}
use Rattle.step.proofs.Framed.{gate-room, gate-open, gated}
use Rattle.step.proofs.step.Goals as goal

pub returns-then-out-lt-ROOM : goal.returns-then-out-lt-ROOM
returns-then-out-lt-ROOM c =
    let a = c.args in
    let s = a.s.now in
    let out = a.out.now in
    gated a.config a.b.now a.head a.clock s out _ (gate-room s out c.if-out-lt-ROOM.true) _ _ _ (record { answer = refl; table = refl; reply = refl })

pub serve_whole-requires : goal.serve_whole-requires
serve_whole-requires c =
    let a = c.args in
    (c.if-out-lt-ROOM.false, (whole-frame a.s.now _ (sym c.gate_of.ensures ∙ ap gate_told c.in_ok-h.was)).inside)

pub returns-in_err-h : goal.returns-in_err-h
returns-in_err-h c =
    let a = c.args in
    let s = a.s.now in
    let out = a.out.now in
    let opened = gate-open s out c.if-out-lt-ROOM.false in
    gated a.config a.b.now a.head a.clock s out _ (opened ∙ sym c.gate_of.ensures ∙ ap gate_told c.in_err-h.was)
    _ _ _ (record { answer = search rules; table = refl; reply = refl })

pub returns : goal.returns
returns c =
    let a = c.args in
    let s = a.s.now in
    let out = a.out.now in
    let opened = gate-open s out c.if-out-lt-ROOM.false in
    gated a.config a.b.now a.head a.clock s out _ (opened ∙ sym c.gate_of.ensures ∙ ap gate_told c.in_ok-h.was)
    _ _ _ c.serve_whole.ensures
