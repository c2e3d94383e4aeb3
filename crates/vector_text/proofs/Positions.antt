-- Where a mark is looked for and isn't found, its place is the text's length.
use Rattle.std.proofs.Common.{ℕ, ◌≡◌, Bool, not, List, length, arith}
use Rattle.std.specs.declared.option.Option.TheVariants.{None}
use Rattle.std.specs.List.{position, position_or_len}
use Rattle.std.proofs.lemmas.Bool.Decides.{nat_tests}
use Rattle.std.proofs.lemmas.List.Sums.{prefix_len-le-length}

pub none_is : (p : ℕ → Bool) (xs : List ℕ) → position p xs ≡ None → position_or_len p xs ≡ length xs
none_is p xs e = let h = prefix_len-le-length (λ x. not (p x)) xs in grind (arith, nat_tests)
