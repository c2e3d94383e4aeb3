-- Numbers that grow, and counters.
use Rattle.std.specs.Prelude.{ℕ, ◌+◌, ◌-◌, ◌%◌, ◌^◌, min, max}
use Rattle.numbers.specs.declared.Cas.{Cas}
use Rattle.numbers.specs.declared.Revision.{Revision}

-- one more; held at 2^64 - 1, where the write is refused with 0x84
abbrev pub next : ℕ → ℕ
next n = min (n + 1) 0xffffffffffffffff

-- "Each plain write stores CAS mark + 1", and a revision that "is the key's row's plus 1"
abbrev pub cas_after : Cas → Cas
cas_after mark = record { 0 = next mark.0 }

abbrev pub revision_after : Revision → Revision
revision_after row = record { 0 = next row.0 }

abbrev pub larger_cas : Cas → Cas → Cas
larger_cas a b = record { 0 = max a.0 b.0 }

-- "Increment wraps past 2^64 - 1 to 0; decrement stops at 0."
abbrev pub incremented : ℕ → ℕ → ℕ
incremented n delta = (n + delta) % 2 ^ 64

abbrev pub decremented : ℕ → ℕ → ℕ
decremented n delta = n - delta
