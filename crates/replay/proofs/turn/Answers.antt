use native.Mathlib.Omega.{arith}
use mathlib.Core.Path.{refl, sym, ap, ◌∙◌}
use Rattle.std.specs.Prelude.{Some}
use Rattle.replay.proofs.Turning.{says, inside, clock-turns, rule-turns, broken-turns, held-length, frame-turns, reply-turns, purge-turns}
use Rattle.replay.proofs.turn.Goals as goal

pub serve_field-requires : goal.serve_field-requires
serve_field-requires c =
    let a = c.args in
    let e = sym c.field_at.ensures ∙ (c.in-Some.is ∙ ap Some c.in-Frame.is) in
    let l = held-length a.p.at a.s.now _ _ _ e refl (says a.p.at a.s.now _ e) c.part.ensures in
    record {
      b_value = c.requires.b_value;
      out_len = (c.requires.out_len.0, (c.requires.out_len.1.0, omega (arith, l, inside a.p.at a.s.now _ e refl, c.requires.out_len.1.1)));
    }

pub compare_reply-requires : goal.compare_reply-requires
compare_reply-requires c =
    let a = c.args in
    let e = sym c.field_at.ensures ∙ (c.in-Some.is ∙ ap Some c.in-Reply.is) in
    let l = held-length a.p.at a.s.now _ _ _ e refl (says a.p.at a.s.now _ e) c.part-in-Reply.ensures in
    omega (arith, l, inside a.p.at a.s.now _ e refl, c.requires.out_len.1.1)

pub passed-requires : goal.passed-requires
passed-requires c =
    let a = c.args in
    let e = sym c.field_at.ensures ∙ (c.in-Some.is ∙ ap Some c.in-Purge.is) in
    omega (arith, says a.p.at a.s.now _ e, inside a.p.at a.s.now _ e refl, c.requires.out_len.1.1)

pub passed-requires-in-Rule : goal.passed-requires-in-Rule
passed-requires-in-Rule c =
    let a = c.args in
    let e = sym c.field_at.ensures ∙ (c.in-Some.is ∙ ap Some c.in-Rule.is) in
    omega (arith, says a.p.at a.s.now _ e, inside a.p.at a.s.now _ e refl, c.requires.out_len.1.1)

pub returns-in-Clock : goal.returns-in-Clock
returns-in-Clock c =
    let a = c.args in
    clock-turns a.config a.b.now a.s.now a.out.now a.p c.requires.b_value _ (sym c.field_at.ensures ∙ (c.in-Some.is ∙ ap Some c.in-Clock.is))

pub returns-in-Frame : goal.returns-in-Frame
returns-in-Frame c =
    let a = c.args in
    frame-turns a.config a.b.now a.s.now a.out.now a.p c.requires.b_value _ _ _ _ _
    (sym c.field_at.ensures ∙ (c.in-Some.is ∙ ap Some c.in-Frame.is)) c.part.ensures c.serve_field.ensures

pub returns-in-Reply : goal.returns-in-Reply
returns-in-Reply c =
    let a = c.args in
    reply-turns a.config a.b.now a.s.now a.out.now a.p c.requires.b_value _ _ _ _ (sym c.field_at.ensures ∙ (c.in-Some.is ∙ ap Some c.in-Reply.is))
    c.part-in-Reply.ensures c.part-in-Reply-2.ensures c.compare_reply.ensures

pub returns-in-Purge : goal.returns-in-Purge
returns-in-Purge c =
    let a = c.args in
    purge-turns a.config a.b.now a.s.now a.out.now a.p c.requires.b_value _ _ _ (λ k. (c.slice_known-1.given k).fits) c.well_formed.1.1.1.1.0.1.1.1.0.1
    (sym c.field_at.ensures ∙ (c.in-Some.is ∙ ap Some c.in-Purge.is)) c.purge_step.ensures.1 c.passed.ensures

pub returns-in-Rule : goal.returns-in-Rule
returns-in-Rule c =
    let a = c.args in
    rule-turns a.config a.b.now a.s.now a.out.now a.p c.requires.b_value _ _ (sym c.field_at.ensures ∙ (c.in-Some.is ∙ ap Some c.in-Rule.is)) c.passed-in-Rule.ensures

pub returns-in_default : goal.returns-in_default
returns-in_default c =
    let a = c.args in
    broken-turns a.config a.b.now a.s.now a.out.now a.p c.requires.b_value (sym c.field_at.ensures ∙ c.in_default.is)
