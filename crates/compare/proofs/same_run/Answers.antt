-- `same_run` meets its contract: its two parts cover the slices.
use Prim.Native.Nat.{◌*◌, ◌-◌, ◌/◌}
use Rattle.octets.proofs.Lists.{take_rest}
use Rattle.octets.proofs.Tests.{same-cover}
use Rattle.octets.specs.Compare.{same}
use lib.ListN.{length, length-take}
use lib.Seq.{length-take-le}
use mathlib.Core.Bool.{◌&&◌}
use mathlib.Core.Path.{sym, ◌∙◌}
use native.Mathlib.Omega.{arith}
use Rattle.compare.proofs.same_run.Goals as goal

pub slice_bounds-all_same-end : goal.slice_bounds-all_same-end
slice_bounds-all_same-end c = let a = c.args in sym (length-take-le (length a.s.now / 32 * 32) a.s.now (omega arith))

pub slice_bounds-all_same-end-2 : goal.slice_bounds-all_same-end-2
slice_bounds-all_same-end-2 c = let a = c.args in sym (length-take-le (length a.s.now / 32 * 32) a.t.now (omega arith))

pub all_same-requires-2 : goal.all_same-requires-2
all_same-requires-2 c = simp length-take (omega arith)

pub returns : goal.returns
returns c =
    let a = c.args in
    let n = length a.s.now in
    (λ i. c.all_same-2.ensures i && (c.all_same-3.ensures ∙ (λ j. same (take_rest a.s.now (n - 32) j) (take_rest a.t.now (n - 32) j))) i)
    ∙ same-cover a.s.now a.t.now (n / 32 * 32) (n - 32) (omega arith)
