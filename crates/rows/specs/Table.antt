-- A table's bytes and what they mean: a header of 16 bytes, state 1, mode 1, vbucket 2, the kept clock 4, mark 8, and then the rows.
use Rattle.std.specs.Prelude.{ℕ, zero, suc, ◌-◌, ◌/◌, List, [], ◌∷◌, ◌++◌, map, length, take, drop, set, get_or, replicate, None}
use Rattle.octets.specs.BigEndian.{num, bytes_of}
use Rattle.numbers.specs.Expiry.{later}
use Rattle.document.specs.declared.Head.{Head}
use Rattle.document.specs.Head.{at_clock}
use Rattle.rows.specs.Row.{Row, row_of, row_bytes}

pub record Table : Type 0 where
  pub head : Head
  pub rows : List Row

unfoldable pub head_of : List ℕ → Head
head_of b = record { state = num b 0 1; mode = num b 1 1; vbucket = num b 2 2; clock = num b 4 4; mark = record { 0 = num b 8 8 } }

-- the first n runs of 1,312 bytes
abbrev pub chunks : ℕ → List ℕ → List (List ℕ)
chunks zero b = []
chunks (suc n) b = take 1312 b ∷ chunks n (drop 1312 b)

-- the row count follows from the size
abbrev pub row_count : List ℕ → ℕ
row_count b = (length b - 16) / 1312

abbrev pub rows_of : ℕ → List ℕ → List Row
rows_of n b = map row_of (chunks n b)

unfoldable pub table_of : List ℕ → Table
unfolding head_of
table_of b = record { head = head_of b; rows = rows_of (row_count b) (drop 16 b) }

-- the bytes of the row at a place, none where there is no such row
abbrev pub row_at : List ℕ → ℕ → List ℕ
row_at b i = get_or (chunks (row_count b) (drop 16 b)) i []

unfoldable pub head_bytes : Head → List ℕ
head_bytes h = bytes_of 1 h.state ++ (bytes_of 1 h.mode ++ (bytes_of 2 h.vbucket ++ (bytes_of 4 h.clock ++ bytes_of 8 h.mark.0)))

abbrev pub rows_bytes : List Row → List ℕ
rows_bytes [] = []
rows_bytes (w ∷ ws) = row_bytes w ++ rows_bytes ws

unfoldable pub table_bytes : Table → List ℕ
unfolding head_bytes
table_bytes t = head_bytes t.head ++ rows_bytes t.rows

-- t with the row at a place set
abbrev pub with_row : Table → ℕ → Row → Table
with_row t i w = record { head = t.head; rows = set t.rows i w }

-- order 2: "the later of the two", the clock that a table keeps and a call's
abbrev pub clock_at : Table → ℕ → ℕ
clock_at t clock = later t.head.clock clock

-- a table at a call's clock, which it keeps
abbrev pub table_at : Table → ℕ → Table
table_at t clock = record { head = at_clock t.head clock; rows = t.rows }

-- "A fresh table is all free, mark 0."; order 2, of the kept clock: "0 when fresh"
abbrev pub fresh : ℕ → ℕ → ℕ → ℕ → Table
fresh n state mode vbucket = record { head = record { state = state; mode = mode; vbucket = vbucket; clock = 0; mark = record { 0 = 0 } }; rows = replicate n None }
