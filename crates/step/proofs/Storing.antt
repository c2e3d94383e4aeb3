-- A value that is stored by its source.
use Prim.Native.Nat.{ℕ, ◌+◌}
use mathlib.Core.Path.{◌≡◌, refl, ◌∙◌}
use mathlib.Core.List.{List}
use lib.ListN.{length, drop}
use lib.Seq.{take_at}
use Rattle.engine.specs.declared.Config.{Config}
use Rattle.octets.specs.Parts.{part, pasted}
use Rattle.document.specs.Documents.{Key}
use Rattle.document.specs.Stored.{entry_of}
use Rattle.document.specs.declared.Metadata.{Metadata}
use Rattle.table.specs.declared.Lookup.{Lookup}
use Rattle.table.specs.Calls.{stored_by}

-- a document with this value for a key, where a lookup said
abbrev pub storing : Config → List ℕ → Lookup → Key → Metadata → List ℕ → List ℕ
storing config b l key m value = stored_by config b l (entry_of key m value)

-- bytes that were written to an array and read back
pub read_back : (s xs s' v : List ℕ) (k : ℕ) → k ≡ length xs → s' ≡ pasted s 0 xs → v ≡ part s' 0 k → v ≡ xs
unfolding pasted
read_back s xs s' v k p q r = r ∙ rw (q, p) (take_at xs (drop (0 + length xs) s) (length xs) refl)
