-- Expiry. The clock is seconds since 1970 in 32 bits.
use Rattle.std.specs.Prelude.{ℕ, ◌+◌, min, max, Bool, false, cond, ◌&&◌, ◌||◌, ℤ, pos, ◌-ℤ◌, ◌==◌, int_le, nat_le, nat_lt, Option, Some, None}

-- order 2: "every served frame, read and purge uses the later of the two", the clock that the table keeps and the call's
abbrev pub later : ℕ → ℕ → ℕ
later kept clock = max kept clock

-- order 5: "the seconds left, negative once the contact is past, zero exactly at the expiry, and a separate answer for a document that never expires"
unfoldable pub seconds_left : ℕ → ℕ → Option ℤ
seconds_left expiry clock = cond (expiry == 0) None (Some (pos expiry -ℤ pos clock))

-- "expired means zero or less"
abbrev pub is_past : Option ℤ → Bool
is_past None = false
is_past (Some n) = int_le n (pos 0)

-- the seconds, 0 where there is no end
abbrev pub seconds_in : Option ℤ → ℤ
seconds_in None = pos 0
seconds_in (Some n) = n

-- 01: "A document is *expired* when its expiry is not 0 and the clock is at or past it."; order 5: "All commands decide from this number"
unfoldable pub expired : ℕ → ℕ → Bool
unfolding seconds_left
expired expiry clock = is_past (seconds_left expiry clock)

-- "1 to 2,592,000 is added to the clock, 0x04 if that passes 2^32 - 1"
unfoldable pub passes : ℕ → ℕ → Bool
passes expiry clock = (nat_le 1 expiry && nat_le expiry 2592000) && nat_lt 0xffffffff (expiry + clock)

-- plain expiry as it is stored: "0 never; 1 to 2,592,000 is added to the clock [..]; above, absolute". The sum is held at 2^32 - 1, where the write is refused.
unfoldable pub absolute : ℕ → ℕ → ℕ
absolute expiry clock = cond (expiry == 0 || nat_lt 2592000 expiry) expiry (min (expiry + clock) 0xffffffff)
