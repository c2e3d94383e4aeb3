-- What decisions store: nothing where they refuse, only where there is room, and only what fits the table's rules.
use native.Mathlib.Omega.{arith}
use native.Mathlib.Nat.{add_comm}
use Prim.Native.Nat.{ℕ, ◌+◌, ◌<◌, ◌≤◌, ◌^◌, max}
use mathlib.Core.Path.{◌≡◌, refl, sym, ◌∙◌}
use mathlib.Core.Bool.{Bool, true, false, cond, not, ◌&&◌, ◌||◌, false≢true}
use mathlib.Core.List.{List, []}
use Rattle.std.specs.Prelude.{Option, Some, None}
use lib.ListN.{length, length-append}
use lib.Dec.{eqb, ltb}
use borrow.Author.Tests.{eqb-true, ne_eqb, ltb-false, not-false}
use Rattle.octets.proofs.Choices.{cases}
use Rattle.digits.proofs.DecimalLaws.{digits-most}
use Rattle.numbers.specs.Claims.{NumbersFit}
use Rattle.numbers.specs.declared.Cas.{Cas}
use Rattle.numbers.specs.Expiry.{absolute}
use Rattle.document.specs.declared.Head.{Head}
use Rattle.document.specs.declared.Metadata.{Metadata}
use Rattle.document.specs.declared.Side.{Side}
use Rattle.document.specs.declared.Side.TheVariants.{Front, Back}
use Rattle.document.specs.Head.{marked}
use Rattle.document.specs.Documents.{Doc, doc_value, joined}
use Rattle.document.specs.Stored.{live, has_row, numbers_of}
use Rattle.commands.specs.declared.Context.{Context}
use Rattle.commands.specs.declared.Meta.{Meta}
use Rattle.commands.specs.declared.Tests.{Tests}
use Rattle.effects.specs.declared.Source.{Source}
use Rattle.effects.specs.declared.Source.TheVariants.{Empty, Frame, Digits, Kept, Joined}
use Rattle.effects.specs.declared.Reply.{Reply}
use Rattle.effects.specs.declared.Reply.TheVariants.{Bare, Counted}
use Rattle.effects.specs.declared.Done.{Done}
use Rattle.commands.specs.declared.Command.{Command}
use Rattle.commands.specs.declared.Command.TheVariants.{Get, Write, Delete, Count, Noop, Version, WithMeta, GetKeys, Join, Touch}
use Rattle.commands.specs.Rules.{rule_of, tests_of, first_status}
use Rattle.effects.specs.Done.{done_of, nothing, storing, plain_numbers, is_delete, meta_numbers, sum}
use Rattle.decision.specs.Decision.{decision}
use Rattle.decision.specs.Decide.{Request, context_of, decide, instruction_of, doc_from, bytes_from}
use Rattle.decision.specs.Claims.{SoundDoc, Formed, StatusStoresNothing, StoresWithRoom, StoresSound}
use Rattle.commands.proofs.Passed.{passed}

-- the tests of a request
abbrev tests_for : Head → Option Doc → Bool → ℕ → Request → Tests
tests_for h row free clock q = tests_of (context_of h row free clock) (instruction_of q) (rule_of (context_of h row free clock) q.command)

pub refused-keeps : StatusStoresNothing
unfolding decide decision
refused-keeps h row free clock q n = rw (ne_eqb (first_status (tests_for h row free clock q)) 0 n) (refl, refl)

-- ---- room
-- a command stores exactly if its rule says so
writes : (c : Context) (x : Command) → has_row (done_of c x).store ≡ (rule_of c x).writes
unfolding done_of rule_of
writes c (Get k) = refl
writes c (Write p) = refl
writes c Delete = refl
writes c (Count k) = cases (live c.row c.clock) (λ t. rw t) (λ f. rw f)
writes c Noop = refl
writes c Version = refl
writes c (WithMeta w) = refl
writes c (GetKeys n) = refl
writes c (Join side) = refl
writes c (Touch t) = refl

no-doc {ℓ} : {X : Type ℓ} (d : Doc) → None ≡ Some d → X
no-doc d e = let z : ◌≡◌ {A = ℕ} 0 1 = cc in absurd (omega arith)

has_some : (s : Option Metadata) (value : List ℕ) (d : Doc) → doc_from s value ≡ Some d → has_row s ≡ true
has_some None value d e = no-doc d e
has_some (Some r) value d e = refl

-- what is stored is stored with status 0
by-status : (b : Bool) (x y : Done) (frame stored : List ℕ) (d : Doc) → y.store ≡ None
    → doc_from (cond b x y).store (bytes_from (cond b x y).source frame stored) ≡ Some d
    → (b ≡ true) × (doc_from x.store (bytes_from x.source frame stored) ≡ Some d)
by-status true x y frame stored d n e = (refl, e)
by-status false x y frame stored d n e = no-doc d (rw n at e)

free-left : (w free : Bool) → w ≡ true → (w && not (false || free)) ≡ false → free ≡ true
free-left w free p e = not-false free (rw p at e)

pub stores-with-room : StoresWithRoom
unfolding decide decision tests_of
stores-with-room h free clock q d e =
    let c = context_of h None free clock in
    let x = done_of c q.command in
    let t = tests_for h None free clock q in
    let (z, y) = by-status (eqb (first_status t) 0) x _ q.value [] d refl e in
    let p = passed t (eqb-true _ _ z) in
    free-left (rule_of c q.command).writes free
    (sym (writes c q.command) ∙ has_some x.store (bytes_from x.source q.value []) d y)
    p.full

-- ---- what is stored fits
absolute-fits : (expiry clock : ℕ) → expiry < 2 ^ 32 → absolute expiry clock < 2 ^ 32
unfolding absolute
absolute-fits expiry clock h = cases (eqb expiry 0 || ltb 2592000 expiry) (λ t. rw t h) (λ f. rw f (omega arith))

empty : (tomb : Bool) (frame stored : List ℕ) → tomb ≡ true → bytes_from (cond tomb Empty Frame) frame stored ≡ []
empty true frame stored e = refl
empty false frame stored e = absurd (false≢true e)

short : (tomb : Bool) (frame stored : List ℕ) → length frame ≤ 1024 → length (bytes_from (cond tomb Empty Frame) frame stored) ≤ 1024
short true frame stored h = omega arith
short false frame stored h = h

pub joined_length : (side : Side) (stored frame : List ℕ) → length (joined side stored frame) ≡ length stored + length frame
joined_length Front stored frame = length-append frame stored ∙ add_comm (length frame) (length stored)
joined_length Back stored frame = length-append stored frame

module _ (h : Head) (low : h.mark.0 < 2 ^ 64) (frame stored : List ℕ) where
  -- what `StoredSound` says of a decision, said of what is done
  record Safe (x : Done) : Type 0 where
    doc : (d : Doc) → doc_from x.store (bytes_from x.source frame stored) ≡ Some d → SoundDoc x.head.mark.0 d
    head : x.head ≡ marked h x.head.mark.0
    grows : h.mark.0 ≤ x.head.mark.0
    fits : x.head.mark.0 < 2 ^ 64

  safe-nothing : (reply : Reply) (cas : Cas) → Safe (nothing h reply cas)
  safe-nothing reply cas = record { doc = λ d e. no-doc d e; head = refl; grows = omega arith; fits = low }

  safe-kept : (row : Metadata) (source : Source) (reply : Reply)
      → SoundDoc (max h.mark.0 row.numbers.cas.0) (record { tomb = row.tomb; value = bytes_from source frame stored; numbers = row.numbers })
      → Safe (storing h row source reply)
  safe-kept row source reply p = record {
    doc = λ d e. let z : record { tomb = row.tomb; value = bytes_from source frame stored; numbers = row.numbers } ≡ d = cc in rw (← z) p;
    head = refl;
    grows = omega arith;
    fits = let c = p.fits.cas in omega arith;
  }

  meta-fits : (w : Meta) → NumbersFit w.numbers → 1 ≤ w.numbers.cas.0 → NumbersFit (meta_numbers h w) × (1 ≤ (meta_numbers h w).cas.0)
  meta-fits w p q =
      cases w.regenerate
      (λ t. rw t (record { flags = p.flags; expiry = p.expiry; revision = p.revision; cas = omega arith }, omega arith))
      (λ f. rw f (p, q))

  meta-same : (w : Meta) → ((meta_numbers h w).flags ≡ w.numbers.flags) × ((meta_numbers h w).expiry ≡ w.numbers.expiry)
  meta-same w = cases w.regenerate (λ t. rw t (refl, refl)) (λ f. rw f (refl, refl))

  safe-cond : (b : Bool) (x y : Done) → (b ≡ true → Safe x) → Safe y → Safe (cond b x y)
  safe-cond true x y p q = p refl
  safe-cond false x y p q = q

module _ (c : Context) (low : c.head.mark.0 < 2 ^ 64) (frame stored : List ℕ) (l : length frame ≤ 1024) (m : length stored ≤ 1024) where
  plain_fits : (flags expiry : ℕ) → flags < 2 ^ 32 → expiry < 2 ^ 32 → NumbersFit (plain_numbers c flags expiry)
  plain_fits flags expiry p q = record { flags = p; expiry = q; revision = omega arith; cas = omega arith }

  safe-plain : (flags expiry : ℕ) (source : Source) (reply : Reply) → flags < 2 ^ 32 → expiry < 2 ^ 32 → length (bytes_from source frame stored) ≤ 1024
      → Safe c.head low frame stored (storing c.head (record { tomb = false; numbers = plain_numbers c flags expiry }) source reply)
  safe-plain flags expiry source reply p q n = safe-kept c.head low frame stored (record { tomb = false; numbers = plain_numbers c flags expiry }) source reply (record {
    fits = plain_fits flags expiry p q;
    one = omega arith;
    marked = omega arith;
    short = n;
    bare = λ t. absurd (false≢true t);
  })

  safe-counted : (flags expiry n : ℕ) → flags < 2 ^ 32 → expiry < 2 ^ 32
      → Safe c.head low frame stored (storing c.head (record { tomb = false; numbers = plain_numbers c flags expiry }) (Digits n) (Counted n))
  safe-counted flags expiry n p q = safe-plain flags expiry (Digits n) (Counted n) p q (omega (arith, digits-most n))

  done-safe : (x : Command) → Formed x → NumbersFit (numbers_of c.row) → ((rule_of c x).joins && ltb 1024 (length stored + length frame)) ≡ false
      → Safe c.head low frame stored (done_of c x)
  unfolding done_of rule_of
  done-safe (Get k) p r j = safe-nothing c.head low frame stored _ _
  done-safe (Write p) (f, e) r j = safe-plain p.flags (absolute p.expiry c.clock) Frame Bare f (absolute-fits p.expiry c.clock e) l
  done-safe Delete p r j =
      safe-kept c.head low frame stored (record { tomb = true; numbers = plain_numbers c 0 0 }) Empty Bare (record {
        fits = plain_fits 0 0 (omega arith) (omega arith);
        one = omega arith;
        marked = omega arith;
        short = omega arith;
        bare = λ t. (refl, refl, refl);
      })
  done-safe (Count k) p r j =
      cases (live c.row c.clock)
      (λ t. rw t (safe-counted (numbers_of c.row).flags (numbers_of c.row).expiry (sum c.number k) r.flags r.expiry))
      (λ t. rw t (safe-counted 0 (absolute k.expiry c.clock) k.initial (omega arith) (absolute-fits k.expiry c.clock p)))
  done-safe Noop p r j = safe-nothing c.head low frame stored _ _
  done-safe Version p r j = safe-nothing c.head low frame stored _ _
  done-safe (GetKeys n) p r j = safe-nothing c.head low frame stored _ _
  done-safe (WithMeta w) (f, o, b) r j =
      let tomb = is_delete w.kind in
      let same = meta-same c.head low frame stored w in
      let fit = meta-fits c.head low frame stored w f o in
      safe-kept c.head low frame stored (record { tomb = tomb; numbers = meta_numbers c.head w }) (cond tomb Empty Frame) Bare (record {
        fits = fit.0;
        one = fit.1;
        marked = omega arith;
        short = short tomb frame stored l;
        bare = λ t. (empty tomb frame stored t, same.0 ∙ (b t).0, same.1 ∙ (b t).1);
      })
  done-safe (Join side) p r j =
      safe-plain (numbers_of c.row).flags (numbers_of c.row).expiry (Joined side) Bare r.flags r.expiry
      (let most : length stored + length frame ≤ 1024 = ltb-false _ _ j in omega (arith, joined_length side stored frame))
  done-safe (Touch t) p r j = safe-plain (numbers_of c.row).flags (absolute t.expiry c.clock) Kept _ r.flags (absolute-fits t.expiry c.clock p) m

pub stores-sound : StoresSound
unfolding decide decision tests_of
stores-sound h row free clock q low formed fits kept =
    let c = context_of h row free clock in
    let t = tests_for h row free clock q in
    let stored = doc_value row in
    let safe = safe-cond h low q.value stored (eqb (first_status t) 0) (done_of c q.command) _
    (λ z. let p = passed t (eqb-true _ _ z) in
    done-safe c low q.value stored (ltb-false _ _ p.long) kept q.command formed fits p.joined)
    (safe-nothing h low q.value stored Bare (record { 0 = 0 })) in
    record { doc = safe.doc; head = safe.head; grows = safe.grows; fits = safe.fits }
