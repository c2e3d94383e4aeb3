-- For the code alone: what storing and purging do to the bytes of any memory. What they mean on a sound table is in table/specs/Claims.antt.
use Rattle.std.specs.Prelude.{ℕ, zero, suc, ◌+◌, ◌*◌, List, ◌++◌, Bool, cond, ltb, take, drop, replicate}
use Rattle.octets.specs.Parts.{pasted}
use Rattle.document.specs.declared.Metadata.{Metadata}
use Rattle.document.specs.declared.Side.{Side}
use Rattle.document.specs.Documents.{Doc, Entry}
use Rattle.rows.specs.Row.{row_of}
use Rattle.rows.specs.Table.{row_count, row_at}
use Rattle.row_writer.specs.Over.{over_bytes, updated_bytes, joined_bytes}
use Rattle.plain.specs.Purge.{picked, one}

-- an entry over the row at a place; unchanged where there is no such row
unfoldable pub row_stored : List ℕ → ℕ → Entry → ℕ → List ℕ
row_stored b i e old = cond (ltb i (row_count b)) (pasted b (16 + i * 1312) (over_bytes (row_at b i) e old)) b

-- a document over the row at a place, which holds its key, of k bytes; unchanged where there is no such row
unfoldable pub row_updated : List ℕ → ℕ → ℕ → Metadata → List ℕ → ℕ → List ℕ
row_updated b i k m value old = cond (ltb i (row_count b)) (pasted b (16 + i * 1312) (updated_bytes (row_at b i) k m value old)) b

-- a value joined to that of the row at a place, after a key of k bytes; unchanged where there is no such row
unfoldable pub row_joined : List ℕ → ℕ → ℕ → Metadata → Side → List ℕ → ℕ → List ℕ
row_joined b i k m side value old = cond (ltb i (row_count b)) (pasted b (16 + i * 1312) (joined_bytes (row_at b i) k m side value old)) b

-- a row's bytes after a purge
unfoldable pub purge_row : (Doc → Bool) → List ℕ → List ℕ
purge_row p r = cond (picked p (row_of r)) (replicate 1312 0) r

-- the bytes of n rows after a purge, and what follows them
abbrev pub purge_bytes : (Doc → Bool) → ℕ → List ℕ → List ℕ
purge_bytes p zero b = b
purge_bytes p (suc n) b = purge_row p (take 1312 b) ++ purge_bytes p n (drop 1312 b)

-- how many of n rows a purge frees
abbrev pub purge_count : (Doc → Bool) → ℕ → List ℕ → ℕ
purge_count p zero b = 0
purge_count p (suc n) b = one (picked p (row_of (take 1312 b))) + purge_count p n (drop 1312 b)

-- memory after a purge of its rows, and how many it frees
abbrev pub purged_rows : (Doc → Bool) → List ℕ → List ℕ
purged_rows p b = take 16 b ++ purge_bytes p (row_count b) (drop 16 b)

abbrev pub freed_rows : (Doc → Bool) → List ℕ → ℕ
freed_rows p b = purge_count p (row_count b) (drop 16 b)
