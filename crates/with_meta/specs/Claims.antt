-- Order 8, of both layouts of the extras: what each carries, written out in bytes. Proved in proofs/Layouts.antt.
use Rattle.std.specs.Prelude.{ℕ, ◌≡◌, List, [], ◌∷◌, ◌++◌}
use Rattle.octets.specs.Parts.{Bytes}
use Rattle.octets.specs.BigEndian.{bytes_of}
use Rattle.numbers.specs.declared.Numbers.{Numbers}
use Rattle.numbers.specs.Claims.{NumbersFit}
use Rattle.with_meta.specs.declared.WithMeta.{WithMeta}
use Rattle.with_meta.specs.WithMeta.{with_meta}

-- 01's layout, in its shortest size: "flags 4, expiry 4, revision 8, CAS 8"
abbrev pub present_extras : Numbers → List ℕ
present_extras n = bytes_of 4 n.flags ++ (bytes_of 4 n.expiry ++ (bytes_of 8 n.revision.0 ++ bytes_of 8 n.cas.0))

-- the 2012 layout: "extras of 25 bytes, flags, expiry, new CAS, revision, one byte of nru"
abbrev pub former_extras : Numbers → ℕ → List ℕ
former_extras n nru = bytes_of 4 n.flags ++ (bytes_of 4 n.expiry ++ (bytes_of 8 n.cas.0 ++ (bytes_of 8 n.revision.0 ++ (nru ∷ []))))

-- a write without options and extended meta
abbrev pub bare_write : Numbers → WithMeta
bare_write n = record { numbers = n; options = 0; section = 0 }

-- any four numbers, and any nru, "which is ignored". It rules out a reader that takes one layout's order of CAS and revision for the other's
pub record LayoutsCarry (n : Numbers) : Type 0 where
  pub present : with_meta (present_extras n) ≡ bare_write n
  pub former : (nru : ℕ) → with_meta (former_extras n nru) ≡ bare_write n

abbrev pub EachLayoutCarries : Type 0
EachLayoutCarries = (n : Numbers) → NumbersFit n → LayoutsCarry n

-- whatever the extras, the numbers read from them fit their bytes
abbrev pub CarriedFits : Type 0
CarriedFits = (extras : List ℕ) → Bytes extras → NumbersFit (with_meta extras).numbers
