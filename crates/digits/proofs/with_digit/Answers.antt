use native.Mathlib.Omega.{arith}
use mathlib.Core.Bool.{true}
use mathlib.Core.Path.{◌≡◌, sym, ◌∙◌}
use Rattle.std.specs.Char.{is_ascii_digit}
use Rattle.std.proofs.lemmas.Bool.Decides.{nat_tests}
use Prim.Native.Nat.{◌≤◌, ◌<◌, ◌*◌, ◌^◌}
use Rattle.digits.proofs.DecimalLaws.{digit-test, too_large, added}
use Rattle.digits.proofs.with_digit.Goals as goal

pub returns-in_err-checked_mul : goal.returns-in_err-checked_mul
returns-in_err-checked_mul c =
    let l : c.args.number * 10 < 2 ^ 64 → ⊥ = c.in_err-checked_mul.ensures in
    let at_least : 2 ^ 64 ≤ c.args.number * 10 = omega (arith, l) in
    c.from_residual.ensures ∙ sym (too_large c.args.number c.args.c (omega (arith, at_least)))

pub returns : goal.returns
returns c = let a = c.args in let t = c.in_ok-checked_mul in
    let digit : is_ascii_digit a.c ≡ true = grind (arith, nat_tests) in
    added a.number a.c t.field-0 c.from.result c.checked_add.result (sym (digit-test a.c) ∙ digit) t.ensures.1 c.from.ensures c.checked_add.ensures
