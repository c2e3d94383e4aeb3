-- Statuses 1 to 3 of document 01, "first that applies", with order 9's 0x83, save the rules that need mode or clock.
use Rattle.std.specs.Prelude.{ℕ, ◌+◌, ◌-◌, ◌%◌, List, Bool, true, not, ◌&&◌, ◌||◌, cond, length, ltb, leb, eqb}
use Rattle.octets.specs.BigEndian.{num}
use Rattle.shape.specs.Shapes.{Shape, shape_of}
use Rattle.shape.specs.declared.Extras.{Extras}
use Rattle.shape.specs.declared.Extras.TheVariants.{Nothing, FlagsExpiry, Counter, Meta, Count, Expiry}
use Rattle.header.specs.declared.Header.{Header}
use Rattle.with_meta.specs.declared.WithMeta.{WithMeta}
use Rattle.with_meta.specs.WithMeta.{with_meta, section_of}
use Rattle.with_meta.specs.FieldRules.{with_meta_ok}

-- "wrong extras size": the sizes that each class may have; order 8: "01's list of extras sizes is amended", by the 25 bytes of the 2012 layout
abbrev pub extras_ok : Extras → ℕ → Bool
extras_ok Nothing n = eqb n 0
extras_ok FlagsExpiry n = eqb n 8
extras_ok Counter n = eqb n 20
extras_ok Meta n = eqb n 24 || (eqb n 25 || (eqb n 26 || (eqb n 28 || eqb n 30)))
extras_ok Count n = eqb n 0 || eqb n 4
extras_ok Expiry n = eqb n 4

-- "key missing, forbidden or over 250"; order 1 has an "optional start key"
abbrev pub key_ok : ℕ → ℕ → Bool
key_ok key n = (eqb key 0 && eqb n 0) || ((eqb key 1 && (leb 1 n && leb n 250)) || (eqb key 2 && leb n 250))

-- status 2 as far as the header shows it: "datatype not 0; extras + key length over body; wrong extras size; key missing, forbidden or over 250; value missing or forbidden"
unfoldable pub form_ok : Shape → Header → Bool
form_ok s h =
    eqb h.datatype 0
    && (leb (h.extlen + h.keylen) h.body
    && (extras_ok s.extras h.extlen
    && (key_ok s.key h.keylen
    && (eqb s.value 1 || eqb h.body (h.extlen + h.keylen)))))

-- order 1: "optional 4-byte count, 1,000 if absent"
unfoldable pub count_of : List ℕ → ℕ
count_of extras = cond (eqb (length extras) 0) 1000 (num extras 0 4)

-- "count 0 is 0x04"
abbrev pub count_ok : Extras → List ℕ → Bool
count_ok Nothing extras = true
count_ok FlagsExpiry extras = true
count_ok Counter extras = true
count_ok Meta extras = true
count_ok Count extras = not (eqb (count_of extras) 0)
count_ok Expiry extras = true

-- how many bytes of extended meta end the value
unfoldable pub meta_size : Shape → List ℕ → ℕ
meta_size s extras = cond (eqb s.meta 0) 0 (section_of extras)

unfoldable pub field_rules_ok : Shape → List ℕ → List ℕ → Bool
unfolding with_meta_ok
field_rules_ok s extras value = count_ok s.extras extras && (eqb s.meta 0 || with_meta_ok s.meta (with_meta extras) value)

-- no rule of statuses 1 and 2 is broken, as far as the frame alone shows it
unfoldable pub keeps_rules : Shape → Header → List ℕ → List ℕ → Bool
unfolding form_ok field_rules_ok
keeps_rules s h extras value = eqb s.status 0 && (form_ok s h && field_rules_ok s extras value)

-- order 9: "A with-meta request with option 0x01 now gets 0x83, tested right after the 0x04 rules, in the reader too."
unfoldable pub is_forced : WithMeta → Bool
is_forced w = eqb (w.options % 2) 1

unfoldable pub forces : Shape → List ℕ → Bool
unfolding is_forced
forces s extras = not (eqb s.meta 0) && is_forced (with_meta extras)

-- status 1, and status 2 as far as the header shows it, or 0
unfoldable pub form_status : Shape → Header → ℕ
unfolding form_ok
form_status s h = cond (not (eqb s.status 0)) s.status (cond (not (form_ok s h)) 0x04 0)

-- status 2 by the field rules of a with-meta request, 0x83, status 3, or 0
unfoldable pub meta_status : ℕ → WithMeta → List ℕ → ℕ
unfolding with_meta_ok
meta_status meta w value = cond (not (with_meta_ok meta w value)) 0x04 (cond (is_forced w) 0x83 (cond (ltb 1024 (length value - w.section)) 0x03 0))

-- status 2 by the field rules, 0x83, status 3, or 0
unfoldable pub field_status : Shape → List ℕ → List ℕ → ℕ
unfolding field_rules_ok forces meta_size
field_status s extras value =
    cond (not (field_rules_ok s extras value)) 0x04
    (cond (forces s extras) 0x83
    (cond (ltb 1024 (length value - meta_size s extras)) 0x03 0))

-- the status of the first rule that applies, or 0
unfoldable pub judged : Shape → Header → List ℕ → List ℕ → ℕ
unfolding form_ok field_rules_ok forces meta_size
judged s h extras value =
    cond (not (eqb s.status 0)) s.status
    (cond (not (form_ok s h)) 0x04
    (cond (not (field_rules_ok s extras value)) 0x04
    (cond (forces s extras) 0x83
    (cond (ltb 1024 (length value - meta_size s extras)) 0x03 0))))

unfoldable pub status : Header → List ℕ → List ℕ → ℕ
unfolding judged
status h extras value = judged (shape_of h.opcode) h extras value
