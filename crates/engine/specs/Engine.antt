-- An engine: rows that are searched by key, written and purged, and the laws that any engine meets. The decisions, the merge theorem and a second engine stand on these alone.
use Rattle.std.specs.Prelude.{◌≡◌, Bool, true, false, cond, List, [], ◌∷◌, ℕ, suc, ◌+◌, ◌<◌, length, Option, Some, None}
use Rattle.octets.specs.Compare.{same}
use Rattle.document.specs.Documents.{Key, Doc, Entry}

-- the document of a key among documents with their keys
abbrev pub find_entry : List Entry → Key → Option Doc
find_entry [] k = None
find_entry (e ∷ es) k = cond (same e.key k) (Some e.doc) (find_entry es k)

-- no two have one key
abbrev pub DistinctKeys : List Entry → Type 0
DistinctKeys [] = Unit {0}
DistinctKeys (e ∷ es) = (find_entry es e.key ≡ None) × DistinctKeys es

pub record Engine : Type 1 where
  pub Rows : Type 0
  -- the rows keep the engine's own rule
  pub Good : Rows → Type 0
  -- the document of a key
  pub find : Rows → Key → Option Doc
  -- how many rows are free
  pub free : Rows → ℕ
  pub put : Rows → Key → Doc → Rows
  -- frees the rows whose document the test picks
  pub purge : Rows → (Doc → Bool) → Rows
  -- how many rows there are, free ones too
  pub size : Rows → ℕ
  -- the documents with their keys, in any order
  pub docs : Rows → List Entry

-- the rows after a document is stored for a key, or nothing
abbrev pub store_row : (E : Engine) → E.Rows → Key → Option Doc → E.Rows
store_row E r k None = r
store_row E r k (Some d) = E.put r k d

-- the key has a row, or there is a free one
abbrev pub Room : (E : Engine) → E.Rows → Key → Type 0
Room E r k = E.find r k ≡ None → 0 < E.free r

-- what is left of a key's document by a purge
abbrev pub after_purge : (Doc → Bool) → Option Doc → Option Doc
after_purge p None = None
after_purge p (Some d) = cond (p d) None (Some d)

pub record Laws (E : Engine) : Type 0 where
  pub good-put : (r : E.Rows) (k : Key) (d : Doc) → E.Good r → Room E r k → E.Good (E.put r k d)
  pub find-put : (r : E.Rows) (k : Key) (d : Doc) → E.Good r → Room E r k → (j : Key)
      → E.find (E.put r k d) j ≡ cond (same k j) (Some d) (E.find r j)
  pub free_new : (r : E.Rows) (k : Key) (d : Doc) → E.Good r → E.find r k ≡ None → 0 < E.free r → suc (E.free (E.put r k d)) ≡ E.free r
  pub free-old : (r : E.Rows) (k : Key) (d e : Doc) → E.Good r → E.find r k ≡ Some e → E.free (E.put r k d) ≡ E.free r
  pub good-purge : (r : E.Rows) (p : Doc → Bool) → E.Good r → E.Good (E.purge r p)
  pub find-purge : (r : E.Rows) (p : Doc → Bool) → E.Good r → (k : Key) → E.find (E.purge r p) k ≡ after_purge p (E.find r k)
  -- what is found is what the documents are, and each row is free or has one
  pub find-docs : (r : E.Rows) → E.Good r → (k : Key) → E.find r k ≡ find_entry (E.docs r) k
  pub distinct-docs : (r : E.Rows) → E.Good r → DistinctKeys (E.docs r)
  pub count : (r : E.Rows) → E.Good r → E.free r + length (E.docs r) ≡ E.size r
  pub size-put : (r : E.Rows) (k : Key) (d : Doc) → E.Good r → Room E r k → E.size (E.put r k d) ≡ E.size r
  pub size-purge : (r : E.Rows) (p : Doc → Bool) → E.Good r → E.size (E.purge r p) ≡ E.size r
