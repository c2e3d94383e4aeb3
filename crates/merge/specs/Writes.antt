-- A list of writes, and what document 01 says of it, without any table.
use Rattle.std.specs.Prelude.{◌≡◌, Bool, true, false, cond, ◌&&◌, ◌||◌, ◌⊎◌, List, [], ◌∷◌, ◌++◌, ℕ, suc, max, eqb, Option, Some, None}
use Rattle.octets.specs.Compare.{same}
use Rattle.numbers.specs.declared.Mode.{Mode}
use Rattle.numbers.specs.Order.{greater}
use Rattle.document.specs.Documents.{Key, Doc, Entry}

-- a document is greater than another in the published order
abbrev pub greater_doc : Mode → Doc → Doc → Bool
greater_doc m a b = greater m a.numbers b.numbers

-- membership, in plain words: equal to one of them
infix 20 ◌∈◌
abbrev pub ◌∈◌ : Doc → List Doc → Type 0
d ∈ [] = ⊥
d ∈ (e ∷ es) = (d ≡ e) ⊎ (d ∈ es)

-- "the greatest is the one that every other is smaller than or the same as"
pub record Greatest (m : Mode) (d : Doc) (ds : List Doc) : Type 0 where
  pub among : d ∈ ds
  pub top : (e : Doc) → e ∈ ds → (greater_doc m d e ≡ true) ⊎ (e ≡ d)

-- the document that a key holds, if any, as a list
abbrev pub option_list : Option Doc → List Doc
option_list None = []
option_list (Some e) = e ∷ []

-- the documents written for a key
abbrev pub for : Key → List Entry → List Doc
for k [] = []
for k (w ∷ ws) = cond (same w.key k) (w.doc ∷ for k ws) (for k ws)

-- a key has a write
abbrev pub is_written : Key → List Entry → Bool
is_written k [] = false
is_written k (w ∷ ws) = same w.key k || is_written k ws

-- how many keys are written that are not among the known ones, each counted at its first write
abbrev pub new_keys : (Key → Bool) → List Entry → ℕ
new_keys known [] = 0
new_keys known (w ∷ ws) = cond (known w.key) (new_keys known ws) (suc (new_keys (λ k. same w.key k || known k) ws))

-- the greatest of a clock and those given
abbrev pub latest : ℕ → List ℕ → ℕ
latest n [] = n
latest n (c ∷ cs) = latest (max n c) cs

-- the largest of a number and the writes' CAS numbers
abbrev pub largest_cas : ℕ → List Entry → ℕ
largest_cas n [] = n
largest_cas n (w ∷ ws) = largest_cas (max n w.doc.numbers.cas.0) ws

abbrev pub beats_all : Mode → Doc → List Doc → Bool
beats_all m w [] = true
beats_all m w (e ∷ es) = greater_doc m w e && beats_all m w es

-- "A call's status is 0 exactly if its write is greater than the key's stored one at the start, if any, and than all earlier writes for the key in the list; otherwise 0x02."
abbrev pub verdicts : Mode → (Key → Option Doc) → List Entry → List Entry → List ℕ
verdicts m start earlier [] = []
verdicts m start earlier (w ∷ ws) =
    cond (beats_all m w.doc (option_list (start w.key) ++ for w.key earlier)) 0 0x02 ∷ verdicts m start (earlier ++ w ∷ []) ws

-- the writes with status 0
abbrev pub applied : List ℕ → List Entry → List Entry
applied [] ws = []
applied (s ∷ ss) [] = []
applied (s ∷ ss) (w ∷ ws) = cond (eqb s 0) (w ∷ applied ss ws) (applied ss ws)
