use native.Mathlib.Omega.{arith}
use mathlib.Core.Path.{refl, sym, ◌∙◌}
use borrow.Author.Tests.{ne_eqb}
use Rattle.replay.proofs.Opening.{opens, made-sound, other-size, unopened, opened}
use Rattle.replay.proofs.replay.Goals as goal

pub returns-then-b-ne-SIZE : goal.returns-then-b-ne-SIZE
returns-then-b-ne-SIZE c =
    let a = c.args in
    other-size a.config a.b.now a.trace.now (ne_eqb _ _ c.if-b-ne-SIZE.true)

pub replay_fields-requires : goal.replay_fields-requires
replay_fields-requires c =
    let o = opens c.args.trace.now _ _ (sym c.opening_of.ensures ∙ c.in-Some.is) in
    let sound = made-sound c.args.b.now _ _ c.if-b-ne-SIZE.false _ _ o.known (omega arith) c.make.ensures.1 in
    record { b_value = sound; out_len = (refl, (o.least, o.most)) }

pub returns-in_default : goal.returns-in_default
returns-in_default c =
    unopened c.args.config c.args.b.now c.args.trace.now c.if-b-ne-SIZE.false
    (sym c.opening_of.ensures ∙ c.in_default.is)

pub returns : goal.returns
returns c =
    opened c.args.config c.args.b.now c.args.trace.now c.if-b-ne-SIZE.false _ _ _ _ _ (sym c.opening_of.ensures ∙ c.in-Some.is)
    c.make.ensures.1 _ c.ruled_by.ensures c.replay_fields.ensures
