-- Order 1, key listing, from the documents alone: "Exactly the live keys at or after the start key, in byte order, each once, stopping at the count or before the first key that would carry the value past 1,278 bytes."
use Rattle.std.specs.Prelude.{ℕ, ◌+◌, ◌-◌, cond, ◌&&◌, List, [], ◌∷◌, ◌++◌, leb, length, Some}
use Rattle.octets.specs.BigEndian.{bytes_of}
use Rattle.keys.specs.Keys.{key_below}
use Rattle.document.specs.Documents.{Key, Entry}
use Rattle.document.specs.Stored.{stored_of, live}

-- "Exactly the live keys": those whose document is live at a clock
abbrev pub live_keys : ℕ → List Entry → List Key
live_keys clock [] = []
live_keys clock (e ∷ es) = cond (live (stored_of (Some e.doc)) clock) (e.key ∷ live_keys clock es) (live_keys clock es)

-- "in byte order": a key goes before the first one that is not below it
abbrev pub insert_key : Key → List Key → List Key
insert_key k [] = k ∷ []
insert_key k (x ∷ xs) = cond (key_below x k) (x ∷ insert_key k xs) (k ∷ (x ∷ xs))

abbrev pub sort_keys : List Key → List Key
sort_keys [] = []
sort_keys (k ∷ ks) = insert_key k (sort_keys ks)

-- "at or after the start key": sorted keys from the first one that is not below it
abbrev pub from_key : Key → List Key → List Key
from_key start [] = []
from_key start (k ∷ ks) = cond (key_below k start) (from_key start ks) (k ∷ ks)

-- "per key, a 4-byte length and the bytes"
abbrev pub key_size : Key → ℕ
key_size k = 4 + length k

abbrev pub keys_bytes : List Key → List ℕ
keys_bytes [] = []
keys_bytes (k ∷ ks) = bytes_of 4 (length k) ++ (k ++ keys_bytes ks)

-- "stopping at the count or before the first key that would carry the value past" the room
abbrev pub taken : ℕ → ℕ → List Key → List Key
taken count room [] = []
taken count room (k ∷ ks) = cond (leb 1 count && leb (key_size k) room) (k ∷ taken (count - 1) (room - key_size k) ks) []

-- all live keys at or after a start key, in order
unfoldable pub keys_from : List Entry → ℕ → Key → List Key
keys_from docs clock start = from_key start (sort_keys (live_keys clock docs))

-- those that a listing shows: "stopping at the count or before the first key that would carry the value past 1,278 bytes"
unfoldable pub listed_keys : List Entry → ℕ → Key → ℕ → List Key
unfolding keys_from
listed_keys docs clock start count = taken count 1278 (keys_from docs clock start)

-- the reply's value
unfoldable pub listing : List Entry → ℕ → Key → ℕ → List ℕ
unfolding listed_keys
listing docs clock start count = keys_bytes (listed_keys docs clock start count)
