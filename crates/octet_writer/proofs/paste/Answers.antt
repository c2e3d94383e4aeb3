-- `paste` meets its contract.
use Prim.Native.Nat.{ℕ}
use Rattle.octets.specs.Parts.{pasted}
use lib.ListN.{length, take, drop}
use lib.Seq.{drop-drop}
use mathlib.Core.List.{List, ◌++◌}
use mathlib.Core.Path.{◌≡◌, refl}
use native.Mathlib.Omega.{arith}
use Rattle.octet_writer.proofs.paste.Goals as goal

-- `paste` meets its contract.
-- what the copy leaves in the part that was lent to it
copied : (s : List ℕ) (at n : ℕ) (xs ys : List ℕ) → n ≡ length xs → ys ≡ xs → take at s ++ (ys ++ drop n (drop at s)) ≡ pasted s at xs
unfolding pasted
copied s at n xs ys l e = rw (e, l, drop-drop) refl

pub returns : goal.returns
returns c = copied c.args.out.now c.args.at _ c.args.s.now _ (omega arith) c.copy_from_slice.ensures.after
