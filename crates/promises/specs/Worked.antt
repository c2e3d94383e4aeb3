-- A worked list that meets the premises of demand 3 on bytes, on a table of two rows, in both modes and both layouts of the extras. Proved in proofs/Worked.antt.
use Rattle.std.specs.Prelude.{ℕ, ◌+◌, ◌≡◌, true, false, cond, List, [], ◌∷◌, ◌++◌, length, eqb, Some, None}
use Rattle.engine.specs.declared.Config.{Config}
use Rattle.numbers.specs.declared.Numbers.{Numbers}
use Rattle.document.specs.declared.Head.{Head}
use Rattle.document.specs.Documents.{Key, Doc}
use Rattle.rows.specs.Row.{Row}
use Rattle.rows.specs.Table.{table_bytes}
use Rattle.promises.specs.Calls.{Call, bytes_after, call_statuses}
use Rattle.promises.specs.Merge.{Premises, Merged, doc_at}
use Rattle.promises.specs.Judged.{at, ask, hello, mykey}

abbrev numbers : ℕ → ℕ → ℕ → Numbers
numbers expiry revision cas = record { flags = 0; expiry = expiry; revision = record { 0 = revision }; cas = record { 0 = cas } }

-- a document's value is one byte, its CAS
abbrev pub doc : ℕ → ℕ → ℕ → Doc
doc expiry revision cas = record { tomb = false; value = cas ∷ []; numbers = numbers expiry revision cas }

abbrev pub tombstone : ℕ → ℕ → Doc
tombstone revision cas = record { tomb = true; value = []; numbers = numbers 0 revision cas }

abbrev pub row : Key → Doc → Row
row k d = Some (record { key = k; doc = d })

abbrev pub head : ℕ → ℕ → ℕ → Head
head mode clock mark = record { state = 1; mode = mode; vbucket = 0; clock = clock; mark = record { 0 = mark } }

-- at the start: `Hello` is stored and long expired, and one row is free
abbrev pub table : ℕ → List ℕ
table mode = table_bytes (record { head = head mode 0 50; rows = row hello (doc 5 4 40) ∷ None ∷ [] })

-- at the end: `Hello` is as given, `mykey` is a tombstone, and the latest clock is kept
abbrev end : ℕ → Doc → List ℕ
end mode d = table_bytes (record { head = head mode 1000000 61; rows = row hello d ∷ row mykey (tombstone 11 61) ∷ [] })

-- the option that last-write-wins asks for; in revision mode the extras end before the options
abbrev options : ℕ → List ℕ
options mode = cond (eqb mode 2) (0 ∷ 0 ∷ 0 ∷ 2 ∷ []) []

-- a with-meta frame: flags 0, expiry 0, a revision and a CAS under 256, and the bytes of key and value
abbrev frame : ℕ → ℕ → ℕ → ℕ → List ℕ → List ℕ
frame mode op revision cas rest =
    ask op (24 + length (options mode))
    (0 ∷ 0 ∷ 0 ∷ 0 ∷ 0 ∷ 0 ∷ 0 ∷ 0 ∷ 0 ∷ 0 ∷ 0 ∷ 0 ∷ 0 ∷ 0 ∷ 0 ∷ revision ∷ 0 ∷ 0 ∷ 0 ∷ 0 ∷ 0 ∷ 0 ∷ 0 ∷ cas ∷ options mode ++ rest)

-- order 8, in revision mode: the same in the 2012 layout, with an nru of 255; last-write-wins has the present one
abbrev former : ℕ → ℕ → ℕ → ℕ → List ℕ → List ℕ
former mode op revision cas rest =
    cond (eqb mode 2) (frame mode op revision cas rest)
    (ask op 25 (0 ∷ 0 ∷ 0 ∷ 0 ∷ 0 ∷ 0 ∷ 0 ∷ 0 ∷ 0 ∷ 0 ∷ 0 ∷ 0 ∷ 0 ∷ 0 ∷ 0 ∷ cas ∷ 0 ∷ 0 ∷ 0 ∷ 0 ∷ 0 ∷ 0 ∷ 0 ∷ revision ∷ 255 ∷ rest))

-- Set (a2) and quiet Set (a3), Delete (a8) and quiet Delete (a9)
abbrev set : ℕ → ℕ → Key → ℕ → ℕ → List ℕ
set mode op key revision cas = frame mode op revision cas (key ++ cas ∷ [])

abbrev delete : ℕ → ℕ → Key → ℕ → ℕ → List ℕ
delete mode op key revision cas = frame mode op revision cas key

abbrev former_set : ℕ → ℕ → Key → ℕ → ℕ → List ℕ
former_set mode op key revision cas = former mode op revision cas (key ++ cas ∷ [])

abbrev former_delete : ℕ → ℕ → Key → ℕ → ℕ → List ℕ
former_delete mode op key revision cas = former mode op revision cas key

abbrev pub calls : ℕ → List Call
calls mode =
    -- a new key
    at 100 (set mode 0xa2 mykey 10 60)
    -- older, though sent later
    ∷ at 101 (set mode 0xa3 mykey 9 59)
    -- equal in all four, in the other layout and at a clock that went back
    ∷ at 99 (former_set mode 0xa2 mykey 10 60)
    -- a tombstone that is greater
    ∷ at 102 (former_delete mode 0xa8 mykey 11 61)
    -- older than the expired document
    ∷ at 102 (set mode 0xa2 hello 3 39)
    -- greater than it
    ∷ at 1000000 (delete mode 0xa9 hello 5 41)
    -- of a larger revision and a smaller CAS: here the modes part
    ∷ at 1000000 (former_set mode 0xa3 hello 6 38)
    ∷ []

-- the list meets the premises, and this is what it gives
pub record Gives (config : Config) (mode : ℕ) (wanted : List ℕ) (winner : Doc) : Type 0 where
  pub premises : Premises config (table mode) (calls mode)
  pub merged : Merged config (table mode) (calls mode)
  pub statuses : call_statuses config (table mode) (calls mode) ≡ wanted
  -- every byte of the table
  pub after : bytes_after config (table mode) (calls mode) ≡ end mode winner
  pub hello-ends : doc_at (bytes_after config (table mode) (calls mode)) hello ≡ Some winner
  pub mykey-ends : doc_at (bytes_after config (table mode) (calls mode)) mykey ≡ Some (tombstone 11 61)

pub record Worked (config : Config) : Type 0 where
  pub by-revision : Gives config 1 (0 ∷ 2 ∷ 2 ∷ 0 ∷ 2 ∷ 0 ∷ 0 ∷ []) (doc 0 6 38)
  pub last-write : Gives config 2 (0 ∷ 2 ∷ 2 ∷ 0 ∷ 2 ∷ 0 ∷ 2 ∷ []) (tombstone 5 41)
