-- The published order of the four numbers, document 001's in both modes: "Last-write-wins: larger CAS, then revision, then expiry, then *smaller* flags. Revision mode: revision, then CAS, then the rest. Equal in all four loses."
use Rattle.std.specs.Prelude.{ℕ, Bool, cond, ◌&&◌, ◌||◌, ◌==◌, nat_lt}
use Rattle.numbers.specs.declared.Numbers.{Numbers}
use Rattle.numbers.specs.declared.Mode.{Mode}
use Rattle.numbers.specs.declared.Mode.TheVariants.{ByRevision, LastWrite}

-- a table's mode by its number: 1 revision, 2 last-write-wins
abbrev pub mode_of : ℕ → Mode
mode_of n = cond (n == 2) LastWrite ByRevision

-- a is above b, or equal to it and `rest` decides
unfoldable pub above : ℕ → ℕ → Bool → Bool
above a b rest = nat_lt b a || (a == b && rest)

-- the number that is looked at first, and second
unfoldable pub lead : Mode → Numbers → ℕ
lead ByRevision n = n.revision.0
lead LastWrite n = n.cas.0

unfoldable pub second : Mode → Numbers → ℕ
second ByRevision n = n.cas.0
second LastWrite n = n.revision.0

-- a is greater than b
unfoldable pub greater : Mode → Numbers → Numbers → Bool
unfolding above lead second
greater m a b = above (lead m a) (lead m b) (above (second m a) (second m b) (above a.expiry b.expiry (nat_lt a.flags b.flags)))
