-- Demand 3 for any engine that meets the laws: a whole list of with-meta calls, each decided on the table as the one before left it.
use Rattle.std.specs.Prelude.{is_some, ◌≡◌, true, false, List, [], ◌∷◌, ◌++◌, map, ℕ, ◌≤◌, ltb, Option, Some}
use Rattle.numbers.specs.declared.Mode.{Mode}
use Rattle.numbers.specs.declared.Mode.TheVariants.{LastWrite}
use Rattle.numbers.specs.Order.{mode_of}
use Rattle.numbers.specs.Expiry.{later}
use Rattle.document.specs.declared.Head.{Head}
use Rattle.document.specs.Head.{marked, clocked, at_clock}
use Rattle.document.specs.Documents.{Key, Doc, Entry}
use Rattle.engine.specs.Engine.{Engine, Laws, store_row}
use Rattle.decision.specs.Decide.{Effect, decide}
use Rattle.decision.specs.Merging.{RequestAt, MergingRequest, meta, write_of}
use Rattle.merge.specs.Writes.{◌∈◌, Greatest, option_list, for, is_written, new_keys, latest, largest_cas, verdicts, applied}

pub record State (E : Engine) : Type 0 where
  pub head : Head
  pub rows : E.Rows

-- a table after a decision on one of its keys
abbrev pub changed : (E : Engine) → State E → Key → Effect → State E
changed E t k x = record { head = x.head; rows = store_row E t.rows k x.store }

-- a key's document
abbrev pub doc_in : (E : Engine) → State E → Key → Option Doc
doc_in E t k = E.find t.rows k

-- one call: decided from the head, the key's row and whether a row is free; order 2: at the later of the kept clock and the call's, which is kept
unfoldable pub effect_on : (E : Engine) → State E → RequestAt → Effect
effect_on E t c =
    decide (at_clock t.head c.clock) (doc_in E t c.request.key) (ltb 0 (E.free t.rows)) (later t.head.clock c.clock) c.request

unfoldable pub table_on : (E : Engine) → State E → RequestAt → State E
unfolding effect_on
table_on E t c = changed E t c.request.key (effect_on E t c)

abbrev pub table_after : (E : Engine) → State E → List RequestAt → State E
table_after E t [] = t
table_after E t (c ∷ cs) = table_after E (table_on E t c) cs

abbrev pub statuses_of : (E : Engine) → State E → List RequestAt → List ℕ
statuses_of E t [] = []
statuses_of E t (c ∷ cs) = (effect_on E t c).status ∷ statuses_of E (table_on E t c) cs

abbrev pub clocks_of : List RequestAt → List ℕ
clocks_of cs = map (λ c. c.clock) cs

abbrev pub writes_of : List RequestAt → List Entry
writes_of cs = map write_of cs

-- the documents that may win a key: the one stored at the start and those that its writes carry
abbrev pub candidates_on : (E : Engine) → State E → List RequestAt → Key → List Doc
candidates_on E t cs k = option_list (doc_in E t k) ++ for k (writes_of cs)

abbrev pub All {ℓ} : {A : Type ℓ} → (A → Type 0) → List A → Type 0
All P [] = Unit {0}
All P (x ∷ xs) = P x × All P xs

abbrev pub mode : (E : Engine) → State E → Mode
mode E t = mode_of t.head.mode

-- undamaged, as far as an engine shows it
pub record Sound (E : Engine) (t : State E) : Type 0 where
  pub good : E.Good t.rows
  pub below : (k : Key) (d : Doc) → doc_in E t k ≡ Some d → d.numbers.cas.0 ≤ t.head.mark.0

pub record MergePremises (E : Engine) (t : State E) (cs : List RequestAt) : Type 0 where
  pub sound : Sound E t
  pub active : t.head.state ≡ 1
  pub merging : All (λ c. MergingRequest (mode E t) t.head.vbucket (meta c) c) cs
  -- "New keys have a write in the list and no row at the start; at least as many rows are free then."
  pub room : new_keys (λ k. is_some (doc_in E t k)) (writes_of cs) ≤ E.free t.rows
  -- "documents for a key that agree in all four numbers being the same"
  pub unique : (k : Key) (a b : Doc) → a ∈ candidates_on E t cs k → b ∈ candidates_on E t cs k → a.numbers ≡ b.numbers → a ≡ b

pub record MergedState (E : Engine) (t : State E) (cs : List RequestAt) : Type 0 where
  -- "each written key ends with the greatest, in the published order, of the documents that its writes carry and the one stored at the start"
  pub winner : (k : Key) → is_written k (writes_of cs) ≡ true
      → (d : Doc) × (doc_in E (table_after E t cs) k ≡ Some d) × Greatest (mode E t) d (candidates_on E t cs k)
  -- "Every other document is as before, and no other key gains one."
  pub others : (k : Key) → is_written k (writes_of cs) ≡ false → doc_in E (table_after E t cs) k ≡ doc_in E t k
  pub statuses : statuses_of E t cs ≡ verdicts (mode E t) (doc_in E t) [] (writes_of cs)
  -- "The mark ends as the largest of itself and the CAS numbers of the writes with status 0"; order 2: "the kept clock ends as the greatest of itself and those given"; nothing else of the head changes
  pub head : (table_after E t cs).head
      ≡ marked (clocked t.head (latest t.head.clock (clocks_of cs))) (largest_cas t.head.mark.0 (applied (statuses_of E t cs) (writes_of cs)))
  -- "in last-write-wins, of all the writes"
  pub mark-last : mode E t ≡ LastWrite → (table_after E t cs).head.mark.0 ≡ largest_cas t.head.mark.0 (writes_of cs)
  pub sound : Sound E (table_after E t cs)

abbrev pub MergeTheorem : Type 1
MergeTheorem = (E : Engine) → Laws E → (t : State E) (cs : List RequestAt) → MergePremises E t cs → MergedState E t cs
