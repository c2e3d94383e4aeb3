use mathlib.Core.Path.{◌≡◌, refl, sym, ap, ◌∙◌}
use mathlib.Core.Bool.{Bool, true, false, not}
use native.Mathlib.Omega.{arith}
use Prim.Native.Nat.{ℕ}
use mathlib.Core.List.{List}
use lib.Dec.{eqb}
use borrow.Author.Tests.{eq-eqb, ne_eqb}
use Rattle.octets.specs.Parts.{part}
use Rattle.octets.specs.BigEndian.{num}
use Rattle.rows.specs.Row.{row_of}
use Rattle.plain.specs.Lookup.{is_free}
use Rattle.plain.proofs.Rows.{is_free-row}
use Rattle.ordered_writer.proofs.Closing.{kept_there}
use Rattle.ordered_writer.proofs.keep_row.Goals as goal

-- a row's test, by its kind
tested : (s r : List ℕ) (at kind : ℕ) (free : Bool) → r ≡ part s at 1312 → kind ≡ num r 0 2 → eqb kind 0 ≡ free → not free ≡ not (is_free (row_of (part s at 1312)))
tested s r at kind free p k f = ap not (sym (ap (λ (t : List ℕ). is_free (row_of t)) (sym p) ∙ is_free-row r ∙ ap (λ (n : ℕ). eqb n 0) (sym k) ∙ f))

pub returns-then-be16-eq0 : goal.returns-then-be16-eq0
returns-then-be16-eq0 c =
    let a = c.args in
    (tested a.b.now _ a.at _ true c.part.ensures c.be16.ensures (eq-eqb _ 0 c.if-be16-eq0.true), refl)

pub returns-then-to-at : goal.returns-then-to-at
returns-then-to-at c =
    let a = c.args in
    (tested a.b.now _ a.at _ false c.part.ensures c.be16.ensures (ne_eqb _ 0 c.if-be16-eq0.false), c.copy_row.ensures)

pub returns-else-to-at : goal.returns-else-to-at
returns-else-to-at c =
    let a = c.args in (
      tested a.b.now _ a.at _ false c.part.ensures c.be16.ensures (ne_eqb _ 0 c.if-be16-eq0.false),
      kept_there a.b.now a.at a.to (omega arith) (omega arith) c.if-to-at.false,
    )
