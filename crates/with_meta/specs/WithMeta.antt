-- The write that the extras of a with-meta request carry, whichever layout they have. Order 8: "Extras length 25 selects it, 24, 26, 28 and 30 the present one; both stay."
use Rattle.std.specs.Prelude.{cond, ℕ, List, length, eqb, leb}
use Rattle.octets.specs.BigEndian.{num}
use Rattle.numbers.specs.declared.Numbers.{Numbers}
use Rattle.with_meta.specs.declared.WithMeta.{WithMeta}

-- the present layout: "flags 4, expiry 4, revision 8, CAS 8"
unfoldable pub present_numbers : List ℕ → Numbers
present_numbers extras = record {
  flags = num extras 0 4;
  expiry = num extras 4 4;
  revision = record { 0 = num extras 8 8 };
  cas = record { 0 = num extras 16 8 };
}

-- order 8, the 2012 layout of document 003: "extras of 25 bytes, flags, expiry, new CAS, revision, one byte of nru, which is ignored"
unfoldable pub former_numbers : List ℕ → Numbers
former_numbers extras = record {
  flags = num extras 0 4;
  expiry = num extras 4 4;
  revision = record { 0 = num extras 16 8 };
  cas = record { 0 = num extras 8 8 };
}

unfoldable pub carried_numbers : List ℕ → Numbers
unfolding present_numbers former_numbers
carried_numbers extras = cond (eqb (length extras) 25) (former_numbers extras) (present_numbers extras)

-- "28 adds options (4); 30 adds options"; 0 where the extras have none, as in the 2012 layout: "No options fit in it"
unfoldable pub options_of : List ℕ → ℕ
options_of extras = cond (leb 28 (length extras)) (num extras 24 4) 0

-- the length of the extended meta: "26 adds meta length (2)", "30 adds options, then meta length"; 0 where the extras have none
unfoldable pub section_of : List ℕ → ℕ
section_of extras = cond (eqb (length extras) 26) (num extras 24 2) (cond (eqb (length extras) 30) (num extras 28 2) 0)

unfoldable pub with_meta : List ℕ → WithMeta
unfolding carried_numbers options_of section_of
with_meta extras = record { numbers = carried_numbers extras; options = options_of extras; section = section_of extras }
