-- `same` meets its contract: slices that differ in length, in their last byte, their first or their last word differ.
use Prim.Native.Nat.{ℕ, ◌-◌}
use Rattle.octets.proofs.Tests.{same_len, same_stop}
use Rattle.octets.specs.Words.{word_at}
use lib.ListN.{length, get_or}
use mathlib.Core.List.{List}
use mathlib.Core.Path.{refl, sym}
use Rattle.compare.proofs.same.Goals as goal
use Rattle.compare.proofs.same.Goals.{then-s-last-via-then-s-last, then-s-last-via-else-s-last+then-s-t-2}

-- `same` meets its contract: slices that differ in length, in their last byte, their first or their last word differ.
pub returns-then-s-t : goal.returns-then-s-t
returns-then-s-t c = let a = c.args in sym (same_len a.s.now a.t.now c.if-s-t.true)

pub returns-then-s-last : goal.returns-then-s-last
returns-then-s-last c =
    let a = c.args in
    elim c.then-s-last.branch [
      | then-s-last-via-then-s-last w ↦ sym (same_stop (λ (l : List ℕ). get_or l (length a.s.now - 1) 0) a.s.now a.t.now _ _ refl refl w.if-s-last.true)
      | then-s-last-via-else-s-last+then-s-t-2 w ↦ sym (same_stop (λ (l : List ℕ). get_or l 0 0) a.s.now a.t.now _ _ refl refl w.if-s-t-2.true)
    ]

pub returns-then-word : goal.returns-then-word
returns-then-word c =
    let a = c.args in
    sym (same_stop (λ (l : List ℕ). word_at l (length a.s.now - 8)) a.s.now a.t.now _ _ c.word.ensures c.word-then-s-ge8.ensures c.if-word.true)

pub returns : goal.returns
returns c = c.same_run.ensures
