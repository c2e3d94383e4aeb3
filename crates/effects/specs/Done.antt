-- What a command does once no test fails.
use Rattle.std.specs.Prelude.{ℕ, Bool, true, false, cond, Option, Some, None}
use Rattle.numbers.specs.declared.Cas.{Cas}
use Rattle.numbers.specs.declared.Numbers.{Numbers}
use Rattle.numbers.specs.Growth.{cas_after, revision_after, incremented, decremented}
use Rattle.numbers.specs.Expiry.{absolute}
use Rattle.document.specs.declared.Metadata.{Metadata}
use Rattle.document.specs.declared.Head.{Head}
use Rattle.document.specs.declared.Side.{Side}
use Rattle.document.specs.Stored.{live, numbers_of}
use Rattle.document.specs.Head.{raised}
use Rattle.commands.specs.declared.MetaKind.{MetaKind}
use Rattle.commands.specs.declared.MetaKind.TheVariants.{Set as SetMeta, Add as AddMeta, Delete as DeleteMeta}
use Rattle.commands.specs.declared.Plain.{Plain}
use Rattle.commands.specs.declared.Touching.{Touching}
use Rattle.commands.specs.declared.Counter.{Counter}
use Rattle.commands.specs.declared.Meta.{Meta}
use Rattle.commands.specs.declared.Command.{Command}
use Rattle.commands.specs.declared.Command.TheVariants.{Get, Write, Delete, Count, Noop, Version, WithMeta, GetKeys, Join, Touch}
use Rattle.commands.specs.declared.Context.{Context}
use Rattle.effects.specs.declared.Source.{Source}
use Rattle.effects.specs.declared.Source.TheVariants.{Empty, Frame, Digits, Kept, Joined}
use Rattle.effects.specs.declared.Reply.{Reply}
use Rattle.effects.specs.declared.Reply.TheVariants.{Bare, Found, Counted, Version as VersionReply, Keys}
use Rattle.effects.specs.declared.Done.{Done}

abbrev pub nothing : Head → Reply → Cas → Done
nothing h reply cas = record { store = None; source = Empty; reply = reply; cas = cas; head = h }

-- the row is stored, and the mark raised to its CAS where lower; "Its reply carries the new CAS."
abbrev pub storing : Head → Metadata → Source → Reply → Done
storing h row source reply = record { store = Some row; source = source; reply = reply; cas = row.numbers.cas; head = raised h row.numbers.cas.0 }

-- Get: "Reply: flags as 4 extras bytes, key for 0c/0d, value, CAS."
abbrev pub found : Context → Bool → Done
found c keyed = nothing c.head (Found (numbers_of c.row).flags keyed) (numbers_of c.row).cas

-- "Each plain write stores CAS mark + 1 and raises the mark to it; its revision is the key's row's plus 1, expired rows and tombstones included, or 1 without a row."
abbrev pub plain_numbers : Context → ℕ → ℕ → Numbers
plain_numbers c flags expiry = record {
  flags = flags;
  expiry = expiry;
  revision = revision_after (numbers_of c.row).revision;
  cas = cas_after c.head.mark;
}

-- Set, Add, Replace: the frame's flags and value, "Plain expiry: 0 never; 1 to 2,592,000 is added to the clock, [..]; above, absolute."
abbrev pub write_done : Context → Plain → Done
write_done c p = storing c.head (record { tomb = false; numbers = plain_numbers c p.flags (absolute p.expiry c.clock) }) Frame Bare

-- Delete: "Leaves a tombstone."; "A tombstone has no value, flags 0, expiry 0."
abbrev pub delete_done : Context → Done
delete_done c = storing c.head (record { tomb = true; numbers = plain_numbers c 0 0 }) Empty Bare

-- "Stored as decimal without leading zeros"; "Reply value: 8 bytes."
abbrev pub counted : Context → ℕ → ℕ → ℕ → Done
counted c flags expiry n = storing c.head (record { tomb = false; numbers = plain_numbers c flags expiry }) (Digits n) (Counted n)

-- "Increment wraps past 2^64 - 1 to 0; decrement stops at 0."
abbrev pub sum : Option ℕ → Counter → ℕ
sum (Some n) k = cond k.up (incremented n k.delta) (decremented n k.delta)
sum None k = 0

-- Increment, Decrement. Live: "flags and expiry stay"; not live: "the initial number is stored, flags 0, expiry by the plain rule"
abbrev pub count_done : Context → Counter → Done
count_done c k =
    cond (live c.row c.clock)
    (counted c (numbers_of c.row).flags (numbers_of c.row).expiry (sum c.number k))
    (counted c 0 (absolute k.expiry c.clock) k.initial)

-- "Stored CAS is the given one, or mark + 1 under option 0x04"; "Expiry is always absolute."
abbrev pub meta_numbers : Head → Meta → Numbers
meta_numbers h w =
    cond w.regenerate
    (record { flags = w.numbers.flags; expiry = w.numbers.expiry; revision = w.numbers.revision; cas = cas_after h.mark })
    w.numbers

-- "Delete of a key without a row stores a tombstone."; "A tombstone has no value"
abbrev pub is_delete : MetaKind → Bool
is_delete SetMeta = false
is_delete AddMeta = false
is_delete DeleteMeta = true

-- Set, Add and Delete with meta: "the mark is raised to it where lower. The reply carries the stored CAS."
abbrev pub meta_done : Context → Meta → Bool → Done
meta_done c w tomb = storing c.head (record { tomb = tomb; numbers = meta_numbers c.head w }) (cond tomb Empty Frame) Bare

-- Append, Prepend, by order 4: "Append and prepend keep flags and expiry."
abbrev pub join_done : Context → Side → Done
join_done c side =
    let old = numbers_of c.row in
    storing c.head (record { tomb = false; numbers = plain_numbers c old.flags old.expiry }) (Joined side) Bare

-- Touch, Get-and-touch, by order 4: "4 extras: expiry, plain rule"; "Touch replies with a bare header, Get-and-touch as Get does."
abbrev pub touch_done : Context → Touching → Done
touch_done c t =
    let old = numbers_of c.row in
    storing c.head (record { tomb = false; numbers = plain_numbers c old.flags (absolute t.expiry c.clock) }) Kept
    (cond t.shown (Found old.flags false) Bare)

-- each command's. Get Keys: "Header CAS is ignored, reply CAS 0". Noop, Version: "Version's value is the five bytes `4.0.0`. Reply CAS 0."
unfoldable pub done_of : Context → Command → Done
done_of c (Get keyed) = found c keyed
done_of c (Write p) = write_done c p
done_of c Delete = delete_done c
done_of c (Count k) = count_done c k
done_of c Noop = nothing c.head Bare (record { 0 = 0 })
done_of c Version = nothing c.head VersionReply (record { 0 = 0 })
done_of c (WithMeta w) = meta_done c w (is_delete w.kind)
done_of c (GetKeys n) = nothing c.head (Keys n) (record { 0 = 0 })
done_of c (Join side) = join_done c side
done_of c (Touch t) = touch_done c t
