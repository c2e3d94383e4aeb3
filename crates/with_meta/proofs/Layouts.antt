-- What each layout of the extras carries.
use Prim.Native.Nat.{ℕ}
use mathlib.Core.Path.{◌≡◌}
use lib.ListN.{length}
use lib.Dec.{eqb}
use Rattle.octets.specs.BigEndian.{bytes_of}
use Rattle.octets.proofs.Choices.{cases}
use Rattle.octets.proofs.Numbers.{be-bytes, num-below}
use Rattle.numbers.specs.declared.Numbers.{Numbers}
use Rattle.numbers.specs.Claims.{NumbersFit}
use Rattle.with_meta.specs.WithMeta.{present_numbers, former_numbers, carried_numbers, options_of, section_of, with_meta}
use Rattle.with_meta.specs.Claims.{present_extras, former_extras, bare_write, EachLayoutCarries, CarriedFits}

module _ (n : Numbers) (f : NumbersFit n) where
  present : with_meta (present_extras n) ≡ bare_write n
  unfolding with_meta carried_numbers present_numbers options_of section_of bytes_of
  present = λ i. record {
    numbers = record {
      flags = be-bytes 4 n.flags f.flags i;
      expiry = be-bytes 4 n.expiry f.expiry i;
      revision = record { 0 = be-bytes 8 n.revision.0 f.revision i };
      cas = record { 0 = be-bytes 8 n.cas.0 f.cas i };
    };
    options = 0;
    section = 0;
  }

  former : (nru : ℕ) → with_meta (former_extras n nru) ≡ bare_write n
  unfolding with_meta carried_numbers former_numbers options_of section_of bytes_of
  former nru = λ i. record {
    numbers = record {
      flags = be-bytes 4 n.flags f.flags i;
      expiry = be-bytes 4 n.expiry f.expiry i;
      revision = record { 0 = be-bytes 8 n.revision.0 f.revision i };
      cas = record { 0 = be-bytes 8 n.cas.0 f.cas i };
    };
    options = 0;
    section = 0;
  }

pub each-layout-carries : EachLayoutCarries
each-layout-carries n f = record { present = present n f; former = former n f }

pub carried-fits : CarriedFits
unfolding with_meta carried_numbers present_numbers former_numbers
carried-fits extras y =
    cases (eqb (length extras) 25)
    (λ e. rw e (record { flags = num-below extras 0 4 y; expiry = num-below extras 4 4 y; revision = num-below extras 16 8 y; cas = num-below extras 8 8 y }))
    (λ e. rw e (record { flags = num-below extras 0 4 y; expiry = num-below extras 4 4 y; revision = num-below extras 8 8 y; cas = num-below extras 16 8 y }))
