-- Documents, apart from how memory holds them.
use Rattle.std.specs.Prelude.{ℕ, List, [], ◌++◌, Bool, Option, Some, None}
use Rattle.numbers.specs.declared.Numbers.{Numbers}
use Rattle.document.specs.declared.Side.{Side}
use Rattle.document.specs.declared.Side.TheVariants.{Front, Back}

abbrev pub Key : Type 0
Key = List ℕ

-- what a used row holds for its key: "a document or a tombstone with its key: kind, value, flags, expiry, revision and CAS"
pub record Doc : Type 0 where
  pub tomb : Bool
  pub value : List ℕ
  pub numbers : Numbers

pub record Entry : Type 0 where
  pub key : Key
  pub doc : Doc

-- a key's value, empty without a document
abbrev pub doc_value : Option Doc → List ℕ
doc_value None = []
doc_value (Some d) = d.value

-- order 4, the "joined value": an appended value stands at the back of the stored one, a prepended one at its front
abbrev pub joined : Side → List ℕ → List ℕ → List ℕ
joined Front stored value = value ++ stored
joined Back stored value = stored ++ value
