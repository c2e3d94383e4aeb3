-- A Get Keys frame is answered the listing of the table's documents, which are exactly the live ones: specs/Listing.antt.
use native.Mathlib.Omega.{arith}
use Prim.Native.Nat.{ℕ, suc, ◌+◌, ◌≤◌}
use mathlib.Core.Path.{◌≡◌, refl, sym, ap, ◌∙◌}
use mathlib.Core.Bool.{Bool, true, false, cond}
use mathlib.Core.List.{List, [], ◌∷◌, ◌++◌}
use Rattle.std.specs.Prelude.{Some}
use lib.ListN.{length, drop, length-append}
use borrow.Author.Tests.{eq-eqb, ne_eqb}
use Rattle.engine.specs.declared.Config.{Config}
use Rattle.octets.specs.Parts.{Bytes, written}
use Rattle.octets.proofs.Choices.{cases}
use Rattle.document.specs.declared.Head.{Head}
use Rattle.document.specs.Documents.{Key, Doc}
use Rattle.engine.specs.Engine.{find_entry, DistinctKeys}
use Rattle.listing.specs.Listing.{listing}
use Rattle.listing.specs.Claims.{Lists}
use Rattle.listing.proofs.Taken.{listing-short}
use Rattle.listing.proofs.Exact.{lists-exactly, by-documents}
use Rattle.listing.proofs.Paging.{pages-all}
use Rattle.shape.specs.Shapes.{shape_of}
use Rattle.header.specs.Header.{header_of, header_bytes}
use Rattle.header.proofs.HeaderLaws.{length-header}
use Rattle.rules.specs.Rules.{count_of}
use Rattle.request.specs.Reading.{frame_status}
use Rattle.commands.specs.declared.Context.{Context}
use Rattle.commands.specs.declared.Instruction.{Instruction}
use Rattle.commands.specs.declared.Command.{Command}
use Rattle.commands.specs.declared.Command.TheVariants.{GetKeys}
use Rattle.commands.specs.Rules.{rule_of, tests_of, first_failure}
use Rattle.effects.specs.declared.Reply.TheVariants.{Bare, Keys}
use Rattle.effects.specs.declared.Done.{Done as Doing}
use Rattle.effects.specs.Done.{nothing, done_of}
use Rattle.decision.specs.Decision.{Decision, decision}
use Rattle.decode.specs.Decode.{command_of, request_of}
use Rattle.rows.specs.Table.{Table, table_of, table_at, clock_at}
use Rattle.engines.specs.Damage.{sound_by}
use Rattle.engines.specs.Claims.{GoodBy}
use Rattle.engines.proofs.EngineLaws.{engines-laws}
use Rattle.engines.proofs.Tables.{sound-good-by}
use Rattle.serving.specs.Reply.{reply_shows, reply_header, reply_bytes}
use Rattle.serving.specs.Serve.{Served, Done, reaches_decision, decision_on, decision_at, frame_effect, frame_reply, answer_by, reply_by, served, served_reply}
use Rattle.serving.proofs.Formed.{no, zero-reaches}
use Rattle.promises.specs.Merge.{doc_at}
use Rattle.promises.specs.Kept.{later_at, kept_by}
use Rattle.promises.specs.Expiry.{opcode, extras_in, key_in, Reaches}
use Rattle.promises.specs.Listing.{count_by, count_in, docs_in, listing_in, listing_header, listing_reply, ListingServed, ListingKeeps}
use Rattle.promises.specs.Listing.{LiveFrom, ListingLive, ListingByDocuments, ListingPages}
use Rattle.promises.proofs.Kept.{later-clock}
use Rattle.promises.proofs.Asks.{ask}
use Rattle.promises.proofs.Liveness.{alive, live-said, later, status, listed, opened}
use Rattle.promises.proofs.Dead.{seen, command, instruction, command-asked, list}
use Rattle.promises.proofs.Alive.{keeps}
use Rattle.promises.proofs.Buried.{found-good}
use Rattle.promises.proofs.Replies.{put}

-- ---- the command that opcode 0xb8 asks for
count-said : (extras : List ℕ) → count_of extras ≡ count_by extras
unfolding count_of
count-said [] = refl
count-said (x ∷ xs) = rw (ne_eqb (suc (length xs)) 0 (λ e. omega arith))

lists-asked : (c : Context) (extras : List ℕ) → ask c extras 0xb8 ≡ GetKeys (count_by extras)
unfolding shape_of command_of
lists-asked c extras = ap GetKeys (count-said extras)

-- its decision once no test fails
abbrev list_decision : Head → ℕ → Decision
list_decision h count = record { status = 0; silent = false; done = nothing h (Keys count) (record { 0 = 0 }) }

-- any loud command's
abbrev loudly : Doing → Decision
loudly x = record { status = 0; silent = false; done = x }

loud-decision : (c : Context) (i : Instruction) → i.quiet ≡ false → (decision c i).status ≡ 0 → decision c i ≡ loudly (done_of c i.command)
unfolding decision
loud-decision c i loud zero =
    let silent : (decision c i).silent ≡ false = rw loud in
    let done : (decision c i).done ≡ done_of c i.command =
    ap (λ (t : Bool). cond t (done_of c i.command) (nothing c.head Bare (record { 0 = 0 }))) (eq-eqb _ 0 zero) in
    λ j. record { status = zero j; silent = silent j; done = done j }

list-decision : (c : Context) (i : Instruction) (count : ℕ) → i.command ≡ GetKeys count → i.quiet ≡ false → (decision c i).status ≡ 0
    → decision c i ≡ list_decision c.head count
unfolding done_of
list-decision c i count asks loud zero = loud-decision c i loud zero ∙ ap (λ (x : Command). loudly (done_of c x)) asks

-- a frame with status 0 was decided
pub reached : (config : Config) (b : List ℕ) (clock : ℕ) (s : List ℕ) → (decision_at config b clock s (header_of s)).status ≡ 0
    → decision_at config b clock s (header_of s) ≡ decision (seen config b clock s) (instruction config b clock s)
unfolding decision_on
reached config b clock s z =
    cases (reaches_decision s (header_of s))
    (λ t. rw t)
    (λ f. let e : frame_status s (header_of s) ≡ 0 = rw f at z in no (sym f ∙ zero-reaches s (header_of s) e))

module _ (config : Config) (b : List ℕ) (clock : ℕ) (s : List ℕ) (o : opcode s ≡ 0xb8) where
  abbrev t : Table
  t = table_at (table_of b) clock

  abbrev now : ℕ
  now = clock_at (table_of b) clock

  asks : command config b clock s ≡ GetKeys (count_in s)
  asks = command-asked config b clock s ∙ ap (ask (seen config b clock s) (extras_in s)) o ∙ lists-asked (seen config b clock s) (extras_in s)

  loud : (instruction config b clock s).quiet ≡ false
  unfolding request_of shape_of
  loud = ap (λ (n : ℕ). (shape_of n).quiet) o

  -- the statuses after 0x07 never apply
  no-status : (room : ℕ) → Reaches config b clock s room → status config b clock s ≡ 0
  unfolding first_failure tests_of rule_of
  no-status room r = later 8 (list config b clock s) r.earlier ∙ rw asks

  module _ (room : ℕ) (r : Reaches config b clock s room) where
    zero-status : (decision_on config t now s (header_of s)).status ≡ 0
    zero-status = listed config b clock s ∙ no-status room r

    decides : decision_on config t now s (header_of s) ≡ list_decision t.head (count_in s)
    decides =
        let e = reached config b clock s zero-status in
        e ∙ list-decision (seen config b clock s) (instruction config b clock s) (count_in s) asks loud (ap (λ (d : Decision). d.status) (sym e) ∙ zero-status)

    replies : frame_reply config b clock s (header_of s) ≡ listing_reply b clock s
    unfolding frame_reply reply_bytes reply_header
    replies =
        let h = header_of s in
        let replied : List ℕ → List ℕ = λ v. header_bytes (listing_header h.opaque (length v)) ++ v in
        let shown : Decision → List ℕ = λ d. reply_shows d.done.reply t.rows now (key_in s) in
        ap (λ (d : Decision). reply_bytes h.opcode h.opaque d (key_in s) (shown d)) decides
        ∙ ap (λ (n : ℕ). reply_bytes n h.opaque (list_decision t.head (count_in s)) (key_in s) (listing (docs_in b) now (key_in s) (count_in s))) o
        ∙ ap (λ (c : ℕ). replied (listing (docs_in b) c (key_in s) (count_in s))) (later-clock b clock)

pub listing-keeps : (config : Config) → ListingKeeps config
unfolding done_of
listing-keeps config b clock s room y o = keeps config b clock s (GetKeys (count_in s)) (asks config b clock s o) (refl, refl) room y

reply-length : (b : List ℕ) (clock : ℕ) (s : List ℕ) → length (listing_reply b clock s) ≡ 24 + length (listing_in b clock s)
reply-length b clock s =
    let h = listing_header (header_of s).opaque (length (listing_in b clock s)) in
    omega (arith, length-append (header_bytes h) (listing_in b clock s), length-header h)

pub listing-served : (config : Config) → ListingServed config
unfolding served served_reply frame_effect
listing-served config b clock s out r o =
    let n = reply-length b clock s in
    let e = replies config b clock s o (length out) r in
    let z = zero-status config b clock s o (length out) r in
    let size = ap length e ∙ n in
    let fits : length (listing_reply b clock s) ≤ length out = omega (arith, n, listing-short (docs_in b) (later_at b clock) (key_in s) (count_in s), r.roomy) in
    let answer : served config b clock s (length out) ≡ Done 0 (24 + (header_of s).body) (24 + length (listing_in b clock s)) =
    ap (answer_by config b clock s) (opened config b clock s (length out) r) ∙ (λ i. Done (z i) (24 + (header_of s).body) (size i)) in
    record {
      answer = answer;
      table = listing-keeps config b clock s (length out) r.bytes o ∙ ap (λ (x : Served). kept_by x b clock) answer;
      reply =
          ap (reply_by config b clock s out) (opened config b clock s (length out) r) ∙ ap (written out 0) e ∙ put out (listing_reply b clock s) fits
          ∙ ap (λ (k : ℕ). listing_reply b clock s ++ drop k out) n;
    }

-- ---- an undamaged table's documents
module _ (config : Config) (b : List ℕ) (y : Bytes b) (undamaged : sound_by config b ≡ true) where
  good : GoodBy config (table_of b)
  good = (sound-good-by config b y undamaged).1

  distinct : DistinctKeys (docs_in b)
  distinct = (engines-laws config).distinct-docs (table_of b).rows good.kept

  found : (k : Key) → doc_at b k ≡ find_entry (docs_in b) k
  found k = (engines-laws config).find-docs (table_of b).rows good.kept k

  few-docs : length (docs_in b) ≤ 256
  few-docs = omega (arith, (engines-laws config).count (table_of b).rows good.kept, good.good.most)

  short-key : (k : Key) (d : Doc) → find_entry (docs_in b) k ≡ Some d → length k ≤ 250
  short-key k d e = (found-good (table_of b).head.mark.0 (table_of b).rows k d good.good.rows (found k ∙ e)).key-most

  -- what is listed by the tests, and by 01's words
  said : (clock : ℕ) (start k : Key) → Lists (docs_in b) clock start k → LiveFrom b clock start k
  said clock start k l = record { doc = l.doc; there = found k ∙ l.found; live = live-said clock l.doc l.live; after = l.after }

  tested : (clock : ℕ) (start k : Key) → LiveFrom b clock start k → Lists (docs_in b) clock start k
  tested clock start k l = record { doc = l.doc; found = sym (found k) ∙ l.there; live = alive clock l.doc l.live; after = l.after }

pub listing-live : (config : Config) → ListingLive config
listing-live config b clock start count y u =
    let x = lists-exactly (docs_in b) clock start count (distinct config b y u) in
    record {
      only = λ k m. said config b y u clock start k (x.only k m);
      rest = λ k l n.
          let out = x.rest k (tested config b y u clock start k l) n in
          record { left = out; first = said config b y u clock start out.first out.first-lists };
      rising = x.rising;
      few = x.few;
      short = x.short;
    }

pub listing-by-documents : (config : Config) → ListingByDocuments config
listing-by-documents config b c y u z v q =
    by-documents (docs_in b) (docs_in c) (distinct config b y u) (distinct config c z v) (λ k. sym (found config b y u k) ∙ q k ∙ found config c z v k)

pub listing-pages : (config : Config) → ListingPages config
listing-pages config b clock start count y u h = (
  few-docs config b y u,
  λ n l. pages-all (docs_in b) clock start count n (distinct config b y u) (short-key config b y u) h l,
)
