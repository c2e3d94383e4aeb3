-- `number` meets its contract: after i turns it has the number of the first i bytes.
use Rattle.octets.proofs.Numbers.{be-room, be-bound, num-suc}
use Rattle.octets.specs.BigEndian.{be_from, be}
use mathlib.Core.Path.{◌≡◌, refl, sym}
use native.Mathlib.Omega.{arith}
use Rattle.octets.proofs.number.Goals as goal

pub loop-i-init : goal.loop-i-init
unfolding be be_from
loop-i-init c = (refl, omega arith)

pub overflow_mul-v : goal.overflow_mul-v
overflow_mul-v c = let l = c.loop-i in omega (arith, be-room l.v l.i 0 l.invariant.1 (omega arith) (omega arith))

pub overflow_add-v : goal.overflow_add-v
overflow_add-v c = let l = c.loop-i in omega (arith, be-room l.v l.i c.wide.result l.invariant.1 (omega arith) (omega arith))

pub loop-i-preserved : goal.loop-i-preserved
loop-i-preserved c =
    let l = c.loop-i in
    let a = c.args in (
      rw (c.wide.ensures.0, l.invariant.0) (sym (num-suc a.s.now a.at l.i (omega arith))),
      be-bound l.v l.i c.wide.result l.invariant.1 (omega arith),
    )

pub returns : goal.returns
returns c =
    let e : c.loop-i.i ≡ c.args.n = omega arith in
    (rw e at c.loop-i.invariant.0, rw e at c.loop-i.invariant.1)
