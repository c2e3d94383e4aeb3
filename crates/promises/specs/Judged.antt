-- The judged examples m1 to m10 of document 01, on bytes: frames served one after the other on a fresh active table of one row, with all that comes of it. Proved in proofs/Judged.antt as one statement over the list.
use Rattle.std.specs.Prelude.{ℕ, ◌≡◌, false, List, [], ◌∷◌, ◌++◌, map, length, take, replicate, Option, Some, None}
use Rattle.engine.specs.declared.Config.{Config}
use Rattle.document.specs.Documents.{Key, Doc}
use Rattle.rows.specs.Table.{table_bytes, fresh}
use Rattle.serving.specs.Serve.{served_length, served_reply}
use Rattle.promises.specs.Calls.{Call, served_by, table_served, bytes_after, call_outcomes, call_statuses}
use Rattle.promises.specs.Merge.{doc_at}

-- ---- what comes of a list of calls
-- a reply is as many bytes of the reply area as the answer says
abbrev replies : Config → List ℕ → List Call → List (List ℕ)
replies config b [] = []
replies config b (c ∷ cs) = take (served_length (served_by config b c)) (served_reply config b c.clock c.received c.reply) ∷ replies config (table_served config b c) cs

-- outcome, status and the whole reply of each call, and the document that the key's row holds after the last
pub record Outcome : Type 0 where
  pub outcomes : List ℕ
  pub statuses : List ℕ
  pub replies : List (List ℕ)
  pub stored : Option Doc

abbrev outcome : Config → List ℕ → List Call → Key → Outcome
outcome config b cs k = record { outcomes = call_outcomes config b cs; statuses = call_statuses config b cs; replies = replies config b cs; stored = doc_at (bytes_after config b cs) k }

pub record Example : Type 0 where
  pub given : Outcome
  pub wanted : Outcome

-- ---- frames and replies
abbrev pub at : ℕ → List ℕ → Call
at clock s = record { clock = clock; received = s; reply = replicate 1302 0 }

abbrev pub mykey : Key
mykey = 0x6d ∷ 0x79 ∷ 0x6b ∷ 0x65 ∷ 0x79 ∷ []

abbrev myvalue : List ℕ
myvalue = 0x6d ∷ 0x79 ∷ 0x76 ∷ 0x61 ∷ 0x6c ∷ 0x75 ∷ 0x65 ∷ []

-- document 001's Set of `mykey` to `myvalue`, vbucket 3: extras 0x1e, body 0x2a; some flags, expiry 10, revision 20, CAS 30, options 2, no extended meta
abbrev m1 : ℕ → List ℕ
m1 flags =
    0x80 ∷ 0xa2 ∷ 0 ∷ 5 ∷ 0x1e ∷ 0 ∷ 0 ∷ 3 ∷ 0 ∷ 0 ∷ 0 ∷ 0x2a ∷ 0 ∷ 0 ∷ 0 ∷ 0 ∷ 0 ∷ 0 ∷ 0 ∷ 0 ∷ 0 ∷ 0 ∷ 0 ∷ 0
    ∷ 0 ∷ 0 ∷ 0 ∷ flags ∷ 0 ∷ 0 ∷ 0 ∷ 10 ∷ 0 ∷ 0 ∷ 0 ∷ 0 ∷ 0 ∷ 0 ∷ 0 ∷ 20 ∷ 0 ∷ 0 ∷ 0 ∷ 0 ∷ 0 ∷ 0 ∷ 0 ∷ 30 ∷ 0 ∷ 0 ∷ 0 ∷ 2 ∷ 0 ∷ 0
    ∷ mykey ++ myvalue

-- its reply, whole
abbrev m1_reply : List ℕ
m1_reply = 0x81 ∷ 0xa2 ∷ 0 ∷ 0 ∷ 0 ∷ 0 ∷ 0 ∷ 0 ∷ 0 ∷ 0 ∷ 0 ∷ 0 ∷ 0 ∷ 0 ∷ 0 ∷ 0 ∷ 0 ∷ 0 ∷ 0 ∷ 0 ∷ 0 ∷ 0 ∷ 0 ∷ 0x1e ∷ []

abbrev pub hello : Key
hello = 0x48 ∷ 0x65 ∷ 0x6c ∷ 0x6c ∷ 0x6f ∷ []

abbrev world : List ℕ
world = 0x57 ∷ 0x6f ∷ 0x72 ∷ 0x6c ∷ 0x64 ∷ []

-- a request with this opcode, so many bytes of extras, and these bytes of extras, key and value; a key of 5 bytes, vbucket 0
abbrev pub ask : ℕ → ℕ → List ℕ → List ℕ
ask op extras body = 0x80 ∷ op ∷ 0 ∷ 5 ∷ extras ∷ 0 ∷ 0 ∷ 0 ∷ 0 ∷ 0 ∷ 0 ∷ length body ∷ 0 ∷ 0 ∷ 0 ∷ 0 ∷ 0 ∷ 0 ∷ 0 ∷ 0 ∷ 0 ∷ 0 ∷ 0 ∷ 0 ∷ body

-- document 000's Add of `Hello` and `World`: flags 0xdeadbeef, expiry 0x0e10
abbrev m5 : List ℕ
m5 =
    0x80 ∷ 0x02 ∷ 0 ∷ 5 ∷ 8 ∷ 0 ∷ 0 ∷ 0 ∷ 0 ∷ 0 ∷ 0 ∷ 0x12 ∷ 0 ∷ 0 ∷ 0 ∷ 0 ∷ 0 ∷ 0 ∷ 0 ∷ 0 ∷ 0 ∷ 0 ∷ 0 ∷ 0
    ∷ 0xde ∷ 0xad ∷ 0xbe ∷ 0xef ∷ 0 ∷ 0 ∷ 0x0e ∷ 0x10 ∷ hello ++ world

-- Set (1) with the same flags and these four bytes of expiry
abbrev set : List ℕ → List ℕ → List ℕ
set expiry value = ask 1 8 (0xde ∷ 0xad ∷ 0xbe ∷ 0xef ∷ expiry ++ (hello ++ value))

abbrev get : List ℕ
get = ask 0 0 hello

-- Increment (5) and Decrement (6) by a delta, initial value 0, expiry 0
abbrev count : ℕ → ℕ → List ℕ
count op delta = ask op 20 (0 ∷ 0 ∷ 0 ∷ 0 ∷ 0 ∷ 0 ∷ 0 ∷ delta ∷ 0 ∷ 0 ∷ 0 ∷ 0 ∷ 0 ∷ 0 ∷ 0 ∷ 0 ∷ 0 ∷ 0 ∷ 0 ∷ 0 ∷ hello)

-- a reply to this opcode, with a status, a CAS under 256, so many bytes of extras, and these bytes of extras and value
abbrev pub reply : ℕ → ℕ → ℕ → ℕ → List ℕ → List ℕ
reply op status cas extras body = 0x81 ∷ op ∷ 0 ∷ 0 ∷ extras ∷ 0 ∷ 0 ∷ status ∷ 0 ∷ 0 ∷ 0 ∷ length body ∷ 0 ∷ 0 ∷ 0 ∷ 0 ∷ 0 ∷ 0 ∷ 0 ∷ 0 ∷ 0 ∷ 0 ∷ 0 ∷ cas ∷ body

abbrev pub stored : ℕ → ℕ → List ℕ
stored op cas = reply op 0 cas 0 []

abbrev pub declined : ℕ → ℕ → List ℕ
declined op status = reply op status 0 0 []

-- a Get's hit: the flags as extras, and the value
abbrev found : List ℕ → List ℕ
found value = reply 0 0 1 4 (0xde ∷ 0xad ∷ 0xbe ∷ 0xef ∷ value)

-- a counter's reply: the number in 8 bytes
abbrev counted : ℕ → ℕ → List ℕ
counted op n = reply op 0 2 0 (0 ∷ 0 ∷ 0 ∷ 0 ∷ 0 ∷ 0 ∷ 0 ∷ n ∷ [])

-- a document with value, flags, expiry, revision and CAS
abbrev doc : List ℕ → ℕ → ℕ → ℕ → ℕ → Option Doc
doc value flags expiry revision cas =
    Some (record { tomb = false; value = value; numbers = record { flags = flags; expiry = expiry; revision = record { 0 = revision }; cas = record { 0 = cas } } })

abbrev mydoc : ℕ → Option Doc
mydoc flags = doc myvalue flags 10 20 30

-- `World` as a plain write stores it on a fresh table
abbrev until : ℕ → Option Doc
until expiry = doc world 0xdeadbeef expiry 1 1

-- every call is served
abbrev wants : List ℕ → List (List ℕ) → Option Doc → Outcome
wants statuses r d = record { outcomes = map (λ (n : ℕ). 0) statuses; statuses = statuses; replies = r; stored = d }

-- ---- the examples: calls on `mykey` and a table of a mode for vbucket 3, calls on `Hello` and a last-write-wins table for vbucket 0
abbrev mine : Config → ℕ → List Call → List ℕ → List (List ℕ) → Option Doc → Example
mine config mode cs statuses r d = record { given = outcome config (table_bytes (fresh 1 1 mode 3)) cs mykey; wanted = wants statuses r d }

abbrev hellos : Config → List Call → List ℕ → List (List ℕ) → Option Doc → Example
hellos config cs statuses r d = record { given = outcome config (table_bytes (fresh 1 1 2 0)) cs hello; wanted = wants statuses r d }

-- a value is set that never expires, and a counter follows: its reply has a number, the row its digits
abbrev counts : Config → List ℕ → ℕ → ℕ → ℕ → List ℕ → Example
counts config value op delta n digits =
    hellos config (at 1000000 (set (0 ∷ 0 ∷ 0 ∷ 0 ∷ []) value) ∷ at 1000000 (count op delta) ∷ []) (0 ∷ 0 ∷ [])
    (stored 1 1 ∷ counted op n ∷ []) (doc digits 0xdeadbeef 0 2 2)

abbrev pub examples : Config → List Example
examples config =
    -- "m1: 001's Set [..], vbucket 3, fresh last-write-wins table for 3: stores flags 7, expiry 10, revision 20, CAS 30. Whole reply: [..] 1e"; at a clock past its expiry
    mine config 2 (at 1000000 (m1 7) ∷ []) (0 ∷ []) (m1_reply ∷ []) (mydoc 7)
    -- "m2: m1 in revision mode: 0x04."
    ∷ mine config 1 (at 1000000 (m1 7) ∷ []) (0x04 ∷ []) (declined 0xa2 0x04 ∷ []) None
    -- "m3: m1 sent again: 0x02."
    ∷ mine config 2 (at 1000000 (m1 7) ∷ at 1000000 (m1 7) ∷ []) (0 ∷ 0x02 ∷ []) (m1_reply ∷ declined 0xa2 0x02 ∷ []) (mydoc 7)
    -- "m4: again with flags 6: stored;"
    ∷ mine config 2 (at 1000000 (m1 7) ∷ at 1000000 (m1 6) ∷ []) (0 ∷ 0 ∷ []) (m1_reply ∷ m1_reply ∷ []) (mydoc 6)
    -- "with 8: 0x02."
    ∷ mine config 2 (at 1000000 (m1 7) ∷ at 1000000 (m1 8) ∷ []) (0 ∷ 0x02 ∷ []) (m1_reply ∷ declined 0xa2 0x02 ∷ []) (mydoc 7)
    -- "m5: 000's Add (0x0e10 is one hour [..]) at clock 1,000,000 on a fresh table: expiry 1,003,600, revision 1, CAS 1."
    ∷ hellos config (at 1000000 m5 ∷ []) (0 ∷ []) (stored 2 1 ∷ []) (until 1003600)
    -- "m6: expiry 21,600 set at 1,000,000: Get hits at 1,021,599, misses at 1,021,600." The row stays.
    ∷ hellos config (at 1000000 (set (0 ∷ 0 ∷ 0x54 ∷ 0x60 ∷ []) world) ∷ at 1021599 get ∷ at 1021600 get ∷ []) (0 ∷ 0 ∷ 0x01 ∷ [])
    (stored 1 1 ∷ found world ∷ declined 0 0x01 ∷ []) (until 1021600)
    -- "m7: at clock 1,000, 2,592,000 stores 2,593,000;"
    ∷ hellos config (at 1000 (set (0 ∷ 0x27 ∷ 0x8d ∷ 0 ∷ []) world) ∷ []) (0 ∷ []) (stored 1 1 ∷ []) (until 2593000)
    -- "2,592,001 stores 2,592,001."
    ∷ hellos config (at 1000 (set (0 ∷ 0x27 ∷ 0x8d ∷ 1 ∷ []) world) ∷ []) (0 ∷ []) (stored 1 1 ∷ []) (until 2592001)
    -- "m8: at 4,294,967,290, 5 stores 4,294,967,295;"
    ∷ hellos config (at 4294967290 (set (0 ∷ 0 ∷ 0 ∷ 5 ∷ []) world) ∷ []) (0 ∷ []) (stored 1 1 ∷ []) (until 4294967295)
    -- "6 is 0x04."
    ∷ hellos config (at 4294967290 (set (0 ∷ 0 ∷ 0 ∷ 6 ∷ []) world) ∷ []) (0x04 ∷ []) (declined 1 0x04 ∷ []) None
    -- "m9: `18446744073709551615` plus 2 is `1`."
    ∷ counts config (49 ∷ 56 ∷ 52 ∷ 52 ∷ 54 ∷ 55 ∷ 52 ∷ 52 ∷ 48 ∷ 55 ∷ 51 ∷ 55 ∷ 48 ∷ 57 ∷ 53 ∷ 53 ∷ 49 ∷ 54 ∷ 49 ∷ 53 ∷ []) 5 2 1 (49 ∷ [])
    -- "m10: `3` minus 5 is `0`;"
    ∷ counts config (51 ∷ []) 6 5 0 (48 ∷ [])
    -- "`007` plus 1 is `8`."
    ∷ counts config (48 ∷ 48 ∷ 55 ∷ []) 5 1 8 (56 ∷ [])
    ∷ []

abbrev pub Judged : Config → Type 0
Judged config = map (λ x. x.given) (examples config) ≡ map (λ x. x.wanted) (examples config)
