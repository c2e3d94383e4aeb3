-- A worked list of calls on a table of three rows: what the two engines answer, which is the same, and the rows that they leave, which are the same in another order. Proved in proofs/Worked.antt.
use Rattle.std.specs.Prelude.{ℕ, ◌-◌, ◌≡◌, true, false, List, [], ◌∷◌, ◌++◌, length, replicate, None}
use Rattle.engine.specs.declared.Config.{Config}
use Rattle.engine.specs.Config.{config_for}
use Rattle.document.specs.Documents.{Key}
use Rattle.rows.specs.Row.{Row}
use Rattle.rows.specs.Table.{table_bytes, fresh}
use Rattle.owning.specs.Owner.{Active, Freed, Live, read_of}
use Rattle.serving.specs.Serve.{Refused, Done}
use Rattle.tally.specs.declared.Tally.{Tally}
use Rattle.promises.specs.Clock.{Serve, Purge, Read, Activate}
use Rattle.promises.specs.Judged.{at, mykey, hello, ask, reply, stored, declined}
use Rattle.promises.specs.Worked.{doc, row, head}
use Rattle.agreement.specs.Calls.{AnyCall, Make, Run, One, Owned, AnyAnswer, Made, RanBy, ServedBy, Shown, Freeing, Activating, any_answers, owned_after_all, AllGivenAny}
use Rattle.agreement.specs.Agreement.{Agrees}

-- ---- frames: `Alpha`, `Delta`, `Hello`, `mykey` is the order of the keys
abbrev alpha : Key
alpha = 0x41 ∷ 0x6c ∷ 0x70 ∷ 0x68 ∷ 0x61 ∷ []

abbrev delta : Key
delta = 0x44 ∷ 0x65 ∷ 0x6c ∷ 0x74 ∷ 0x61 ∷ []

-- Set (1) of one byte, with flags 0, that never expires
abbrev set : Key → ℕ → List ℕ
set key value = ask 1 8 (0 ∷ 0 ∷ 0 ∷ 0 ∷ 0 ∷ 0 ∷ 0 ∷ 0 ∷ key ++ value ∷ [])

abbrev get : Key → List ℕ
get key = ask 0 0 key

abbrev delete : Key → List ℕ
delete key = ask 4 0 key

-- Get Keys (b8) from a key on
abbrev list : Key → List ℕ
list key = ask 0xb8 0 key

abbrev serves : ℕ → List ℕ → AnyCall
serves clock s = One (Serve (at clock s))

-- ---- the calls
abbrev start : Owned
start = record { table = table_bytes (fresh 3 1 1 0); tally = record { served = 0; refused = 0; silent = 0 } }

abbrev first : List AnyCall
first =
    -- four rows don't fit, three do; the table is a replica, and takes writes once it is active
    Make 4 1 1 0
    ∷ Make 3 2 1 0
    ∷ One Activate
    ∷ serves 100 (set mykey 1)
    -- two frames in one run: `Hello` goes before `mykey` in key order, and after it on the plain engine's rows
    ∷ Run (record { clock = 101; received = set hello 2 ++ get hello; reply = replicate 1400 0 })
    ∷ serves 102 (get mykey)
    -- in key order both rows move
    ∷ serves 103 (set alpha 3)
    ∷ serves 104 (delete hello)
    -- no row is free: a tombstone keeps its row
    ∷ serves 105 (set delta 5)
    -- in key order a row moves into the gap
    ∷ One (Purge 106 4)
    ∷ serves 107 (set delta 5)
    ∷ []

abbrev pub worked_calls : List AnyCall
worked_calls = first ++ (One (Read 107 mykey) ∷ serves 108 (list alpha) ∷ [])

-- ---- what is answered
-- replies in an area of so many bytes
abbrev area : ℕ → List ℕ → List ℕ
area n r = r ++ replicate (n - length r) 0

-- a frame of so many bytes, with its status and its reply
abbrev answer : ℕ → ℕ → List ℕ → AnyAnswer
answer status used r = ServedBy (Done status used (length r)) (area 1302 r)

-- a Get's hit: flags 0, and the value, which is the CAS
abbrev hit : ℕ → List ℕ
hit cas = reply 0 0 cas 4 (0 ∷ 0 ∷ 0 ∷ 0 ∷ cas ∷ [])

-- a key that is listed, with its length in four bytes
abbrev item : Key → List ℕ
item key = 0 ∷ 0 ∷ 0 ∷ 5 ∷ key

abbrev counts : ℕ → ℕ → Tally
counts served refused = record { served = served; refused = refused; silent = 0 }

abbrev wanted : List AnyAnswer
wanted =
    Made 5
    ∷ Made 0
    ∷ Activating Active
    ∷ answer 0 38 (stored 1 1)
    ∷ RanBy (record { cursor = record { at = 67 }; filled = 53; tally = counts 3 0; stop = Refused 1 24 }) (area 1400 (stored 1 2 ++ hit 2))
    ∷ answer 0 29 (hit 1)
    ∷ answer 0 38 (stored 1 3)
    ∷ answer 0 29 (stored 4 4)
    ∷ answer 0x82 38 (declined 1 0x82)
    ∷ Freeing (Freed 1)
    ∷ answer 0 38 (stored 1 5)
    ∷ Shown (Live (doc 0 1 1).numbers None 0 1) (1 ∷ [])
    ∷ answer 0 29 (reply 0xb8 0 0 0 (item alpha ++ (item delta ++ item mykey)))
    ∷ []

-- ---- by an engine: where the read found the value of `mykey`, and the rows at the end
pub record LeavesRows (config : Config) (place : ℕ) (rows : List Row) : Type 0 where
  pub answers : any_answers config start worked_calls ≡ wanted
  pub stands : read_of config (owned_after_all config start first).table 107 mykey ≡ Live (doc 0 1 1).numbers None place 1
  -- every byte of the table
  pub after : owned_after_all config start worked_calls ≡ record { table = table_bytes (record { head = head 1 108 5; rows = rows }); tally = counts 8 1 }

-- as they came, `Delta` in the row that the purge freed
abbrev pub PlainLeaves : Type 0
PlainLeaves = LeavesRows (config_for true) 53 (row mykey (doc 0 1 1) ∷ row delta (doc 0 1 5) ∷ row alpha (doc 0 1 3) ∷ [])

-- in key order
abbrev pub OrderedLeaves : Type 0
OrderedLeaves = LeavesRows (config_for false) 2677 (row alpha (doc 0 1 3) ∷ row delta (doc 0 1 5) ∷ row mykey (doc 0 1 1) ∷ [])

pub record WorkedAlike : Type 0 where
  -- the premises of the theorem are met
  pub given : AllGivenAny worked_calls
  pub agree : Agrees (config_for true) (config_for false) start worked_calls
  pub plain : PlainLeaves
  pub ordered : OrderedLeaves
