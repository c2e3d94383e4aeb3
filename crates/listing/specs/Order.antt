-- For the code alone: keys in order, as halving needs them. Equal keys may follow each other.
use Rattle.std.specs.Prelude.{◌≡◌, false, List, [], ◌∷◌}
use Rattle.keys.specs.Keys.{key_below}
use Rattle.document.specs.Documents.{Key}

-- no key stands before one that comes before it
abbrev pub NoneBelow : Key → List Key → Type 0
NoneBelow k [] = Unit {0}
NoneBelow k (x ∷ xs) = (key_below x k ≡ false) × NoneBelow k xs

abbrev pub InOrder : List Key → Type 0
InOrder [] = Unit {0}
InOrder (x ∷ xs) = NoneBelow x xs × InOrder xs
