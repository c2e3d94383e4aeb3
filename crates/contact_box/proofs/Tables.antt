-- A table that the arguments ask for fits the memory and can be made there.
use native.Mathlib.Omega.{arith}
use Prim.Native.Nat.{ℕ, ◌+◌, ◌*◌, ◌≤◌}
use mathlib.Core.Path.{◌≡◌, ◌∙◌}
use mathlib.Core.List.{List}
use borrow.Author.Tests.{le-leb, eq-eqb}
use lib.ListN.{length}
use Rattle.rows.specs.RowRules.{size_ok}
use Rattle.rows.specs.Table.{table_bytes, fresh}
use Rattle.owning.specs.Owner.{size_of, make_ok, made}
use Rattle.contact_box.specs.Arguments.{Makes}

module _ (rows mode : ℕ) (m : Makes rows mode) where
  size_is : size_of rows ≡ 16 + rows * 1312
  unfolding size_of
  size_is = rw (le-leb 1 rows m.some, le-leb rows 256 m.most)

  pub size-most : size_of rows ≤ 335888
  size-most = omega (arith, size_is, m.most)

  pub made-fresh : (b b' : List ℕ) (vbucket : ℕ) → length b ≡ size_of rows → b' ≡ made b rows 1 mode vbucket → b' ≡ table_bytes (fresh rows 1 mode vbucket)
  unfolding made make_ok size_ok
  made-fresh b b' vbucket e q =
      q
      ∙ rw (le-leb 1 rows m.some, le-leb rows 256 m.most, eq-eqb (length b) (16 + rows * 1312) (e ∙ size_is), le-leb 1 mode m.first, le-leb mode 2 m.last)
