-- The rows of any memory with the gaps closed. What a purge means on a table in key order is in Claims.antt.
use Rattle.std.specs.Prelude.{ℕ, zero, suc, ◌+◌, cond, List, ◌++◌, take, drop, replicate}
use Rattle.rows.specs.Row.{row_of}
use Rattle.rows.specs.Table.{row_count}
use Rattle.plain.specs.Lookup.{is_free}

-- the used ones of n rows, then z zeros and a row of zeros for each free one, then what follows the rows
abbrev pub closed_bytes : ℕ → ℕ → List ℕ → List ℕ
closed_bytes zero z b = replicate z 0 ++ b
closed_bytes (suc n) z b =
    cond (is_free (row_of (take 1312 b)))
    (closed_bytes n (z + 1312) (drop 1312 b))
    (take 1312 b ++ closed_bytes n z (drop 1312 b))

abbrev pub gaps_closed : List ℕ → List ℕ
gaps_closed b = take 16 b ++ closed_bytes (row_count b) 0 (drop 16 b)
