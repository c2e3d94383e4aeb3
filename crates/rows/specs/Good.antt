-- A used row that keeps document 01's rules, and rows of which each does.
use Rattle.std.specs.Prelude.{ℕ, ◌^◌, ◌≤◌, ◌<◌, ◌≡◌, List, [], ◌∷◌, true, length, Some, None}
use Rattle.document.specs.Documents.{Entry}
use Rattle.rows.specs.Row.{Row}

-- a used row keeps 01's rules under a mark
pub record EntryGood (mark : ℕ) (e : Entry) : Type 0 where
  pub key-least : 1 ≤ length e.key
  pub key-most : length e.key ≤ 250
  pub value-most : length e.doc.value ≤ 1024
  pub bare : e.doc.tomb ≡ true → (e.doc.value ≡ []) × (e.doc.numbers.flags ≡ 0) × (e.doc.numbers.expiry ≡ 0)
  pub flags : e.doc.numbers.flags < 2 ^ 32
  pub expiry : e.doc.numbers.expiry < 2 ^ 32
  pub revision : e.doc.numbers.revision.0 < 2 ^ 64
  pub cas-least : 1 ≤ e.doc.numbers.cas.0
  pub cas-most : e.doc.numbers.cas.0 ≤ mark

abbrev pub AllGood : ℕ → List Row → Type 0
AllGood mark [] = Unit {0}
AllGood mark (None ∷ ws) = AllGood mark ws
AllGood mark (Some e ∷ ws) = EntryGood mark e × AllGood mark ws
