-- Laws of serving/specs/Reply.antt and specs/Fitting.antt: how long a body is at most, a body by its variant, and a reply from its header and its body.
use native.Mathlib.Omega.{arith}
use mathlib.Core.Path.{◌≡◌, refl, sym, ap, ◌∙◌}
use mathlib.Core.Bool.{Bool, true, false, cond, ◌||◌}
use mathlib.Core.List.{List, [], ◌∷◌, ◌++◌}
use Rattle.std.specs.Prelude.{Some, None}
use Prim.Native.Nat.{ℕ, ◌+◌, ◌≤◌}
use lib.ListN.{length, length-append}
use lib.Dec.{ltb}
use borrow.Author.Tests.{ltb-false, le-ltb}
use Rattle.octets.specs.Parts.{written}
use Rattle.octets.specs.BigEndian.{bytes_of}
use Rattle.octets.specs.Compare.{same}
use Rattle.octets.proofs.Choices.{cases, neither}
use Rattle.octets.proofs.Lists.{before, written_none}
use Rattle.header.specs.declared.Header.{Header}
use Rattle.header.specs.Header.{header_bytes}
use Rattle.header.proofs.HeaderLaws.{length-header}
use Rattle.effects.specs.declared.Reply.{Reply}
use Rattle.effects.specs.declared.Reply.TheVariants.{Bare, Found, Counted, Version as VersionReply, Keys}
use Rattle.decision.specs.Decision.{Decision}
use Rattle.decision.specs.Decide.{reply_key}
use Rattle.document.specs.Documents.{Key, doc_value}
use Rattle.listing.proofs.Taken.{listing-short}
use Rattle.rows.specs.Row.{Row}
use Rattle.rows.specs.Find.{find_row}
use Rattle.rows.specs.Good.{AllGood}
use Rattle.plain.specs.Plain.{plain}
use Rattle.serving.specs.Reply.{reply_shows, body_of, reply_header, reply_bytes}
use Rattle.reply.specs.Fitting.{unfit, fitting_reply}

shown-most : (keyed : Bool) (key : List ℕ) → length (cond keyed key []) ≤ length key
shown-most true key = omega arith
shown-most false key = omega arith

pub shown-fits : {r : Reply} {flags : ℕ} {keyed : Bool} {shown : List ℕ} (key : List ℕ) → r ≡ Found flags keyed → shown ≡ cond keyed key [] → length shown ≤ length key
shown-fits {r} {flags} {keyed} key e s = rw s (shown-most keyed key)

pub key-most : (r : Reply) (key : List ℕ) → length (reply_key r key) ≤ length key
key-most Bare key = omega arith
key-most (Found flags keyed) key = shown-most keyed key
key-most (Counted n) key = omega arith
key-most VersionReply key = omega arith
key-most (Keys n) key = omega arith

found-size : (flags : ℕ) (shown old : List ℕ) → length (bytes_of 4 flags ++ (shown ++ old)) ≡ 4 + length shown + length old
unfolding bytes_of
found-size flags shown old = simp length-append (omega arith)

pub value-short : (mark : ℕ) (ws : List Row) (k : Key) → AllGood mark ws → length (doc_value (find_row ws k)) ≤ 1024
value-short mark [] k g = omega arith
value-short mark (None ∷ ws) k g = value-short mark ws k g
value-short mark (Some x ∷ ws) k g = cases (same x.key k) (λ e. rw e g.0.value-most) (λ e. rw e (value-short mark ws k g.1))

pub body-most : (r : Reply) (key old : List ℕ) → length key ≤ 250 → length old ≤ 1024 → length (body_of r key old) ≤ 1278
unfolding bytes_of
body-most Bare key old h k = omega arith
body-most (Found flags keyed) key old h k = omega (arith, found-size flags (cond keyed key []) old, shown-most keyed key)
body-most (Counted n) key old h k = omega arith
body-most VersionReply key old h k = omega arith
body-most (Keys n) key old h k = omega arith

-- the same of what a table shows
pub shown-body-most : (r : Reply) (mark : ℕ) (rows : List Row) (clock : ℕ) (key : Key) → length key ≤ 250 → AllGood mark rows → length (body_of r key (reply_shows r rows clock key)) ≤ 1278
shown-body-most Bare mark rows clock key h g = body-most Bare key (doc_value (find_row rows key)) h (value-short mark rows key g)
shown-body-most (Found flags keyed) mark rows clock key h g = body-most (Found flags keyed) key (doc_value (find_row rows key)) h (value-short mark rows key g)
shown-body-most (Counted n) mark rows clock key h g = body-most (Counted n) key (doc_value (find_row rows key)) h (value-short mark rows key g)
shown-body-most VersionReply mark rows clock key h g = body-most VersionReply key (doc_value (find_row rows key)) h (value-short mark rows key g)
shown-body-most (Keys n) mark rows clock key h g = listing-short (plain.docs rows) clock key n

-- a body's length and what its writer leaves
abbrev pub Bodied : Reply → List ℕ → List ℕ → ℕ → List ℕ → List ℕ → Type 0
Bodied r key old n s0 s1 = (n ≡ length (body_of r key old)) × (s1 ≡ written s0 24 (body_of r key old))

pub found-body : (r : Reply) (key old : List ℕ) (flags n : ℕ) (keyed : Bool) (shown s0 s1 : List ℕ) → r ≡ Found flags keyed → shown ≡ cond keyed key []
    → (n ≡ 4 + length shown + length old) × (s1 ≡ written s0 24 (bytes_of 4 flags ++ (shown ++ old))) → Bodied r key old n s0 s1
found-body r key old flags n keyed shown s0 s1 e s p =
    let b : body_of r key old ≡ bytes_of 4 flags ++ (shown ++ old) = rw (e, s) in
    (p.0 ∙ sym (ap length b ∙ found-size flags shown old), p.1 ∙ ap (λ (xs : List ℕ). written s0 24 xs) (sym b))

module _ (op opaque : ℕ) (d : Decision) (key old : List ℕ) where
  pub silent-reply : d.silent ≡ true → reply_bytes op opaque d key old ≡ []
  unfolding reply_bytes
  silent-reply t = rw t

  loud-reply : d.silent ≡ false → reply_bytes op opaque d key old ≡ header_bytes (reply_header op opaque d key old) ++ body_of d.done.reply key old
  unfolding reply_bytes
  loud-reply f = rw f

  abbrev pub Replied : ℕ → List ℕ → List ℕ → Type 0
  Replied n s0 s1 = (n ≡ length (reply_bytes op opaque d key old)) × (s1 ≡ written s0 0 (reply_bytes op opaque d key old))

  pub no-reply : (s : List ℕ) → d.silent ≡ true → Replied 0 s s
  no-reply s t = rw (silent-reply t, written_none s 0 (omega arith)) (refl, refl)

  pub replied : (s0 s1 s2 : List ℕ) (n : ℕ) (h : Header) → d.silent ≡ false → 24 + n ≤ length s0 → Bodied d.done.reply key old n s0 s1
      → h ≡ reply_header op opaque d key old → s2 ≡ written s1 0 (header_bytes h) → Replied (24 + n) s0 s2
  replied s0 s1 s2 n h f l b e w =
      let p : header_bytes h ++ body_of d.done.reply key old ≡ reply_bytes op opaque d key old = rw e (sym (loud-reply f)) in
      let q : s2 ≡ written s0 0 (header_bytes h ++ body_of d.done.reply key old) =
      before s0 s1 s2 24 (body_of d.done.reply key old) (header_bytes h) b.1 w (length-header h) (omega (arith, b.0)) in
      let z : length (header_bytes h ++ body_of d.done.reply key old) ≡ 24 + n = length-append (header_bytes h) _ ∙ omega (arith, length-header h, b.0) in
      (sym z ∙ ap length p, q ∙ ap (λ (xs : List ℕ). written s0 0 xs) p)

-- ---- the three bounds
pub bounds : (room : ℕ) (key old : List ℕ) → unfit room key old ≡ false → (1302 ≤ room) × ((length key ≤ 250) × (length old ≤ 1024))
bounds room key old e =
    let p = neither (ltb room 1302 || ltb 250 (length key)) (ltb 1024 (length old)) e in
    let q = neither (ltb room 1302) (ltb 250 (length key)) p.0 in
    (ltb-false room 1302 q.0, (ltb-false 250 (length key) q.1, ltb-false 1024 (length old) p.1))

-- under them the reply is serving's
pub fitting : (room op opaque : ℕ) (d : Decision) (key old : List ℕ) → 1302 ≤ room → length key ≤ 250 → length old ≤ 1024
    → fitting_reply room op opaque d key old ≡ reply_bytes op opaque d key old
unfolding fitting_reply
fitting room op opaque d key old r k o = rw (le-ltb room 1302 r, le-ltb 250 (length key) k, le-ltb 1024 (length old) o)

module _ (op opaque : ℕ) (d : Decision) (key old out : List ℕ) where
  abbrev pub Fitted : ℕ → List ℕ → Type 0
  Fitted n out' = (n ≡ length (fitting_reply (length out) op opaque d key old)) × (out' ≡ written out 0 (fitting_reply (length out) op opaque d key old))

  pub unfit-reply : unfit (length out) key old ≡ true → Fitted 0 out
  unfolding fitting_reply
  unfit-reply t = rw (t, written_none out 0 (omega arith)) (refl, refl)

  pub within : unfit (length out) key old ≡ false → (n : ℕ) (out' : List ℕ) → Replied op opaque d key old n out out' → Fitted n out'
  unfolding fitting_reply
  within f n out' p = rw f p
