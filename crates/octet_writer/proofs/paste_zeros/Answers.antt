-- `paste_zeros` meets its contract: after k turns k zeros are pasted.
use Prim.Native.Nat.{ℕ, ◌+◌}
use Rattle.octets.proofs.Lists.{pasted-none, zero_more}
use lib.ListN.{set}
use mathlib.Core.List.{List}
use mathlib.Core.Path.{◌≡◌, sym, ap, ◌∙◌}
use native.Mathlib.Omega.{arith}
use Rattle.octet_writer.proofs.paste_zeros.Goals as goal

pub loop-k-init : goal.loop-k-init
loop-k-init c = let a = c.args in sym (pasted-none a.out.now a.at (omega arith))

pub loop-k-preserved : goal.loop-k-preserved
loop-k-preserved c =
    let l = c.loop-k in
    let a = c.args in
    ap (λ (s : List ℕ). set s (a.at + l.k) 0) l.invariant ∙ zero_more a.out.now a.at l.k (omega arith)

pub returns : goal.returns
returns c =
    let l = c.loop-k in
    let e : l.k ≡ c.args.n = omega arith in
    l.invariant ∙ rw e
