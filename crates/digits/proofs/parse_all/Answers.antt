use native.Mathlib.Numerals.{add-one}
use Prim.Native.Nat.{suc}
use mathlib.Core.Path.{◌∙◌, sym, ap}
use lib.ListN.{drop, drop_of_length-le}
use lib.Seq.{drop-cons}
use Rattle.digits.specs.Decimal.{number_from}
use Rattle.digits.proofs.DecimalLaws.{number-on, number-stops, number-ends}
use Rattle.digits.proofs.parse_all.Goals as goal

pub returns-in_err-number : goal.returns-in_err-number
returns-in_err-number c =
    let l = c.loop-c in let s = c.args.s.now in
    c.from_residual.ensures ∙ sym (sym l.invariant.1 ∙ (ap (number_from l.number) (drop-cons s l.c-index 0 c.loop-c-test.true) ∙ number-stops l.number _ _ (sym c.in_err-number.ensures)))

pub loop-c-preserved : goal.loop-c-preserved
loop-c-preserved c =
    let l = c.loop-c in
    let s = c.args.s.now in
    let e = number-on l.number _ _ (drop (suc l.c-index) s) (sym c.in_ok-number.ensures) in (
      e.1,
      rw add-one (sym e.0 ∙ (ap (number_from l.number) (sym (drop-cons s l.c-index 0 c.loop-c-test.true)) ∙ l.invariant.1)),
    )

pub returns : goal.returns
returns c =
    let l = c.loop-c in
    sym (sym l.invariant.1 ∙ (ap (number_from l.number) (drop_of_length-le c.args.s.now c.loop-c-test.false) ∙ number-ends l.number l.invariant.0))
