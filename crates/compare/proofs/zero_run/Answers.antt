-- `zero_run` meets its contract: its two parts cover the slice.
use Prim.Native.Nat.{◌*◌, ◌-◌, ◌/◌}
use Rattle.octets.proofs.Lists.{take_rest}
use Rattle.octets.proofs.Tests.{zeros-cover}
use Rattle.octets.specs.Compare.{zeros}
use lib.ListN.{length}
use lib.Seq.{length-take-le}
use mathlib.Core.Bool.{◌&&◌}
use mathlib.Core.Path.{sym, ap, ◌∙◌}
use native.Mathlib.Omega.{arith}
use Rattle.compare.proofs.zero_run.Goals as goal

pub slice_bounds-all_zero-end : goal.slice_bounds-all_zero-end
slice_bounds-all_zero-end c = let s = c.args.s.now in sym (length-take-le (length s / 32 * 32) s (omega arith))

pub returns : goal.returns
returns c =
    let s = c.args.s.now in
    (λ i. c.all_zero-2.ensures i && (c.all_zero-3.ensures ∙ ap zeros (take_rest s (length s - 32))) i)
    ∙ zeros-cover s (length s / 32 * 32) (length s - 32) (omega arith)
