use native.Mathlib.Omega.{arith}
use mathlib.Core.Path.{◌≡◌, sym, ap, ◌∙◌}
use mathlib.Core.Bool.{Bool, true, false, not, ◌&&◌}
use mathlib.Core.List.{List, map}
use Prim.Native.Nat.{ℕ}
use Rattle.std.specs.Prelude.{is_none}
use Rattle.std.proofs.lemmas.Grind.{common_steps}
use Rattle.fingerprint.specs.Fingerprint.{print_among}
use Rattle.rows.specs.Row.{row_of}
use Rattle.plain.specs.Damage.{distinct}
use Rattle.plain.specs.Lookup.{find_in}
use Rattle.plain_damage.proofs.Passes.{distinct-free, distinct-used}
use Rattle.plain_damage.proofs.Prints.{distinct-unprinted}
use Rattle.plain_damage.proofs.first_distinct.Goals as goal

pub returns-then-be16-eq0 : goal.returns-then-be16-eq0
returns-then-be16-eq0 c = distinct-free c.args.row.now (map row_of c.args.later.now) (sym c.be16.ensures ∙ c.if-be16-eq0.true)

pub returns-then-not-among : goal.returns-then-not-among
returns-then-not-among c =
    let a = c.args in
    let no : print_among a.print a.prints.now ≡ false = sym c.among.ensures ∙ c.if-not-among.true in
    distinct-unprinted a.row.now (map row_of a.later.now)
    (λ z. c.if-be16-eq0.false (c.be16.ensures ∙ z))
    (sym (λ i. print_among (c.requires.0 i) (c.requires.1 i)) ∙ no)

opposite : (r f : Bool) → f ≡ not r → r ≡ not f
opposite true f e = rw e
opposite false f e = rw e

pub returns : goal.returns
returns c =
    let a = c.args in
    let ws = map row_of a.later.now in
    let found : c.find_among.result ≡ find_in c.key-key.result.now 0 ws = grind (arith, common_steps, c.find_among.ensures) in
    ap (λ (t : Bool). t && distinct ws) (opposite c.is_none.result _ c.is_none.ensures ∙ ap is_none (found ∙ ap (λ (k : List ℕ). find_in k 0 ws) c.key-key.ensures))
    ∙ distinct-used a.row.now ws (λ z. c.if-be16-eq0.false (c.be16.ensures ∙ z))
