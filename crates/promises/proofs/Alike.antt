-- Two rows that aren't live, with one revision and one CAS, are decided alike by every command but the with-meta ones, and what is done neither shows nor stores their values.
use Prim.Native.Nat.{ℕ}
use mathlib.Core.Path.{◌≡◌, refl, sym, ap, ◌∙◌}
use mathlib.Core.Bool.{Bool, true, false, cond, ◌&&◌, true≢false}
use mathlib.Core.List.{List, [], ◌∷◌}
use Rattle.std.specs.Prelude.{Option, Some, None}
use lib.Dec.{eqb}
use borrow.Author.Tests.{ne_eqb}
use Rattle.engine.specs.declared.Config.{Config}
use Rattle.octets.specs.Compare.{same}
use Rattle.octets.proofs.Choices.{cases}
use Rattle.octets.proofs.Options.{none-some}
use Rattle.document.specs.declared.Head.{Head}
use Rattle.document.specs.declared.Metadata.{Metadata}
use Rattle.document.specs.Documents.{Key, Doc, doc_value}
use Rattle.document.specs.Stored.{live, stored_of}
use Rattle.commands.specs.declared.Context.{Context}
use Rattle.commands.specs.declared.Instruction.{Instruction}
use Rattle.commands.specs.declared.Counter.{Counter}
use Rattle.commands.specs.declared.Command.{Command}
use Rattle.commands.specs.declared.Command.TheVariants.{Get, Write, Delete, Count, Noop, Version, WithMeta, GetKeys, Join, Touch}
use Rattle.commands.specs.Rules.{Rule, rule_of, tests_of, status_by, first_status, first_failure}
use Rattle.commands.proofs.Passed.{passed}
use Rattle.effects.specs.declared.Source.{Source}
use Rattle.effects.specs.declared.Source.TheVariants.{Empty, Frame, Digits, Kept, Joined}
use Rattle.effects.specs.declared.Reply.{Reply}
use Rattle.effects.specs.declared.Reply.TheVariants.{Bare, Found, Counted, Version as VersionReply, Keys}
use Rattle.effects.specs.declared.Done.{Done}
use Rattle.effects.specs.Done.{nothing, done_of}
use Rattle.decision.specs.Decision.{Decision, decision}
use Rattle.decision.specs.Decide.{Request, bytes_from, doc_from, reply_value, effect_of}
use Rattle.listing.specs.Listing.{live_keys, sort_keys, from_key, taken, keys_bytes, keys_from, listed_keys, listing}
use Rattle.rows.specs.Row.{Row}
use Rattle.rows.specs.Find.{find_row}
use Rattle.plain.specs.Plain.{used_rows, replace}
use Rattle.engines.specs.Engines.{engine_of}
use Rattle.engines.proofs.EngineLaws.{put-replaces}
use Rattle.serving.specs.Reply.{reply_shows, reply_header, reply_bytes}
use Rattle.serving.proofs.Formed.{by_cond}
use Rattle.promises.proofs.Asks.{IsPlain}

-- ---- what is done without the stored value
-- a reply that doesn't show it
abbrev Hides : Reply → Type 0
Hides Bare = Unit {0}
Hides (Found flags keyed) = ⊥
Hides (Counted n) = Unit {0}
Hides VersionReply = Unit {0}
Hides (Keys n) = Unit {0}

-- bytes that don't come of it
abbrev Apart : Source → Type 0
Apart Empty = Unit {0}
Apart Frame = Unit {0}
Apart (Digits n) = Unit {0}
Apart Kept = ⊥
Apart (Joined side) = ⊥

abbrev pub Blind : Done → Type 0
Blind x = Hides x.reply × Apart x.source

apart-bytes : (x : Source) → Apart x → (frame stored stored' : List ℕ) → bytes_from x frame stored ≡ bytes_from x frame stored'
apart-bytes Empty p frame stored stored' = refl
apart-bytes Frame p frame stored stored' = refl
apart-bytes (Digits n) p frame stored stored' = refl
apart-bytes Kept p frame stored stored' = absurd p
apart-bytes (Joined side) p frame stored stored' = absurd p

-- whatever the row holds, the table is told the same
pub blind-effect : (a : Request) (row row' : Option Doc) (x : Decision) → Blind x.done → effect_of a row x ≡ effect_of a row' x
blind-effect a row row' x p =
    let bytes = apart-bytes x.done.source p.1 a.value (doc_value row) (doc_value row') in
    λ j. record { status = x.status; store = doc_from x.done.store (bytes j); head = x.done.head }

-- with the same live keys in both tables, a listing is the same too
module _ (rows rows' : List Row) (clock : ℕ) (key : Key) (keys : live_keys clock (used_rows rows) ≡ live_keys clock (used_rows rows')) where
  blind-value : (r : Reply) → Hides r → reply_value r (reply_shows r rows clock key) ≡ reply_value r (reply_shows r rows' clock key)
  unfolding listing listed_keys keys_from
  blind-value Bare p = refl
  blind-value (Found flags keyed) p = absurd p
  blind-value (Counted n) p = refl
  blind-value VersionReply p = refl
  blind-value (Keys n) p = λ i. keys_bytes (taken n 1278 (from_key key (sort_keys (keys i))))

  pub blind-reply : (op opaque : ℕ) (x : Decision) → Blind x.done
      → reply_bytes op opaque x key (reply_shows x.done.reply rows clock key) ≡ reply_bytes op opaque x key (reply_shows x.done.reply rows' clock key)
  unfolding reply_bytes reply_header
  blind-reply op opaque x p = rw (blind-value x.done.reply p.0)

-- a document that isn't live put in place of another that isn't changes no live key
pub put-dead : (config : Config) (clock : ℕ) (rows : List Row) (k : Key) (d e : Doc) → (engine_of config).Good rows → find_row rows k ≡ Some d → live (stored_of (Some d)) clock ≡ false
    → live (stored_of (Some e)) clock ≡ false
    → live_keys clock (used_rows rows) ≡ live_keys clock (used_rows ((engine_of config).put rows k e))
put-dead config clock rows k d e g there dead dead' =
    replaced rows there ∙ ap (λ (r : List Row). live_keys clock (used_rows r)) (sym (put-replaces config rows k e d g there))
  where
    replaced : (ws : List Row) → find_row ws k ≡ Some d → live_keys clock (used_rows ws) ≡ live_keys clock (used_rows (replace ws k e))
    replaced [] f = none-some d f
    replaced (None ∷ ws) f = replaced ws f
    replaced (Some x ∷ ws) f =
        cases (same x.key k)
        (λ t.
        let g : Some x.doc ≡ Some d = rw t at f in
        let z : x.doc ≡ d = cc in
        rw (t, z, dead, dead'))
        (λ t. rw t (λ i. cond (live (stored_of (Some x.doc)) clock) (x.key ∷ replaced ws (rw t at f) i) (replaced ws (rw t at f) i)))

-- ---- two rows
module _ (h : Head) (free : Bool) (clock : ℕ) (m m' : Metadata) (n n' : Option ℕ) (size size' : ℕ) (dead : live (Some m) clock ≡ false) (dead' : live (Some m') clock ≡ false)
    (revision : m.numbers.revision ≡ m'.numbers.revision) (cas : m.numbers.cas ≡ m'.numbers.cas) where
  abbrev c : Context
  c = record { head = h; row = Some m; free = free; clock = clock; number = n; size = size }

  abbrev c' : Context
  c' = record { head = h; row = Some m'; free = free; clock = clock; number = n'; size = size' }

  same-rule : (x : Command) → IsPlain x → rule_of c x ≡ rule_of c' x
  unfolding rule_of
  same-rule (Get k) p = refl
  same-rule (Write w) p = refl
  same-rule Delete p = refl
  same-rule (Count k) p = refl
  same-rule Noop p = refl
  same-rule Version p = refl
  same-rule (WithMeta w) p = absurd p
  same-rule (GetKeys n) p = refl
  same-rule (Join side) p = refl
  same-rule (Touch t) p = refl

  -- a join is refused before the sizes are looked at
  same_tests : (i : Instruction) (t : Rule) → first_status (tests_of c i t) ≡ first_status (tests_of c' i t)
  unfolding tests_of first_status first_failure
  same_tests i t = cases t.joins (λ j. rw (j, dead, dead')) (λ j. rw (j, dead, dead', revision, cas))

  same-status : (i : Instruction) (x : Command) → IsPlain x → status_by c i (rule_of c x) ≡ status_by c' i (rule_of c' x)
  same-status i x p = ap (λ (t : Rule). status_by c i t) (same-rule x p) ∙ same_tests i (rule_of c' x)

  -- what is done: nothing where the status isn't 0
  abbrev made : Context → Instruction → Command → Done
  made x i y = cond (eqb (status_by x i (rule_of x y)) 0) (done_of x y) (nothing h Bare (record { 0 = 0 }))

  abbrev Alike : Instruction → Command → Type 0
  Alike i x = (made c i x ≡ made c' i x) × Blind (made c i x)

  -- by a command that needs no live document, the same for both rows
  alike : (i : Instruction) (x : Command) → IsPlain x → done_of c x ≡ done_of c' x → Blind (done_of c x) → Alike i x
  alike i x p e q = (
    λ j. cond (eqb (same-status i x p j) 0) (e j) (nothing h Bare (record { 0 = 0 })),
    by_cond Blind (eqb (status_by c i (rule_of c x)) 0) _ _ (λ t. q) (λ t. (tt, tt)),
  )

  -- a Get and a touch miss
  missed : (i : Instruction) (t : Rule) → t.needs ≡ true → status_by c i t ≡ 0 → ⊥
  unfolding tests_of
  missed i t e z = true≢false (sym (rw (e, dead)) ∙ (passed (tests_of c i t) z).missing)

  -- and a join
  unstored : (i : Instruction) (t : Rule) → t.joins ≡ true → status_by c i t ≡ 0 → ⊥
  unfolding tests_of
  unstored i t e z = true≢false (sym (rw (e, dead)) ∙ (passed (tests_of c i t) z).unstored)

  refused : (i : Instruction) (x : Command) → IsPlain x → (status_by c i (rule_of c x) ≡ 0 → ⊥) → Alike i x
  refused i x p n = rw (ne_eqb _ 0 n, ne_eqb _ 0 (λ z. n (same-status i x p ∙ z))) (refl, (tt, tt))

  done-count : (k : Counter) → (done_of c (Count k) ≡ done_of c' (Count k)) × Blind (done_of c (Count k))
  unfolding done_of
  done-count k = rw (dead, dead', revision) (refl, (tt, tt))

  same-made : (i : Instruction) (x : Command) → IsPlain x → Alike i x
  unfolding done_of rule_of
  same-made i (Get k) p = refused i (Get k) tt (missed i _ refl)
  same-made i (Write w) p = alike i (Write w) tt (rw revision) (tt, tt)
  same-made i Delete p = alike i Delete tt (rw revision) (tt, tt)
  same-made i (Count k) p = alike i (Count k) tt (done-count k).0 (done-count k).1
  same-made i Noop p = alike i Noop tt refl (tt, tt)
  same-made i Version p = alike i Version tt refl (tt, tt)
  same-made i (WithMeta w) p = absurd p
  same-made i (GetKeys n) p = alike i (GetKeys n) tt refl (tt, tt)
  same-made i (Join side) p = refused i (Join side) tt (unstored i _ refl)
  same-made i (Touch t) p = refused i (Touch t) tt (missed i _ refl)

  pub same-decision : (i : Instruction) → IsPlain i.command → (decision c i ≡ decision c' i) × Blind (decision c i).done
  unfolding decision
  same-decision i p =
      let made_alike = same-made i i.command p in
      let status = same-status i i.command p in
      let rule = same-rule i.command p in
      (λ j. record { status = status j; silent = i.quiet && eqb (status j) (rule j).silent_on; done = made_alike.0 j }, made_alike.1)
