-- What writing a decision's reply leaves: of a listing the keys after their header, of any other reply what the reply's writer leaves.
use Prim.Native.Nat.{ℕ, ◌+◌, ◌≤◌}
use mathlib.Core.Path.{◌≡◌, refl, sym, ap, subst, ◌∙◌}
use mathlib.Core.Bool.{true, false, ◌||◌}
use mathlib.Core.List.{List}
use native.Mathlib.Omega.{arith}
use lib.Dec.{ltb}
use lib.ListN.{length, drop}
use Rattle.engine.specs.declared.Config.{Config}
use Rattle.engine.specs.declared.EngineKind.{EngineKind}
use Rattle.engine.specs.declared.EngineKind.TheVariants.{Plain, Ordered}
use Rattle.octets.specs.Parts.{written}
use Rattle.octets.proofs.Choices.{cases}
use Rattle.header.specs.declared.Header.{Header}
use Rattle.header.specs.Header.{header_bytes}
use Rattle.document.specs.Documents.{Key}
use Rattle.effects.specs.declared.Reply.{Reply}
use Rattle.effects.specs.declared.Reply.TheVariants.{Bare, Found, Counted, Version as VersionReply, Keys}
use Rattle.decision.specs.Decision.{Decision}
use Rattle.decision.specs.Decide.{reply_key, reply_extras}
use Rattle.listing.proofs.Taken.{taken-short, listing-short}
use Rattle.rows.specs.Table.{row_count, table_of}
use Rattle.plain.specs.Plain.{plain}
use Rattle.plain_listing.specs.Places.{fitting_keys}
use Rattle.ordered_lookup.specs.Halving.{first_from}
use Rattle.ordered_listing.specs.Walk.{keys_live, keys_walked}
use Rattle.table.specs.Calls.{keys_with, keys_for}
use Rattle.serving.specs.Reply.{body_of, header_with, reply_header}
use Rattle.reply.specs.Fitting.{fitting_reply}
use Rattle.reply.proofs.Replies.{Bodied, no-reply, replied}
use Rattle.step.specs.Answer.{keys_reply, reply_as, reply_to, ReplyWritten}

-- the keys listed of any memory fit
short-in : (k : EngineKind) (room : ℕ) (b : List ℕ) (clock : ℕ) (start : Key) (count : ℕ) → length (keys_with k room b clock start count) ≤ 1278
unfolding fitting_keys keys_walked
short-in Plain room b clock start count =
    cases (ltb room 1302 || ltb 256 (row_count b)) (λ t. rw t (omega arith)) (λ f. rw f (listing-short (plain.docs (table_of b).rows) clock start count))
short-in Ordered room b clock start count =
    cases (ltb room 1302) (λ t. rw t (omega arith)) (λ f. rw f (taken-short count 1278 (keys_live clock (drop (first_from start (table_of b).rows) (table_of b).rows))))

pub keys-short : (config : Config) (room : ℕ) (b : List ℕ) (clock : ℕ) (start : Key) (count : ℕ) → length (keys_for config room b clock start count) ≤ 1278
unfolding keys_for
keys-short config room b clock start count = short-in config.engine room b clock start count

module _ (config : Config) (b : List ℕ) (clock : ℕ) (h : Header) (d : Decision) (start : Key) (count : ℕ) (out : List ℕ) where
  abbrev keys : List ℕ
  keys = keys_for config (length out) b clock start count

  pub silent-listing : d.silent ≡ true → ReplyWritten (keys_reply config (length out) b clock h d start count) out 0 out
  silent-listing t = let p = no-reply h.opcode h.opaque d start keys out t in record { size = p.0; bytes = p.1 }

  module _ (lists : d.done.reply ≡ Keys count) where
    body_is : keys ≡ body_of d.done.reply start keys
    body_is = ap (λ (r : Reply). body_of r start keys) (sym lists)

    header_is : (n : ℕ) → n ≡ length keys → header_with h.opcode h.opaque d.status 0 0 n d.done.cas ≡ reply_header h.opcode h.opaque d start keys
    unfolding reply_header
    header_is n e =
        let size = e ∙ ap length body_is in
        λ i. header_with h.opcode h.opaque d.status (length (reply_key (sym lists i) start)) (length (reply_extras (sym lists i))) (size i) d.done.cas

    pub listing-written : (n : ℕ) (out₁ out₂ : List ℕ) → d.silent ≡ false → 1302 ≤ length out → n ≡ length keys → out₁ ≡ written out 24 keys
        → out₂ ≡ written out₁ 0 (header_bytes (header_with h.opcode h.opaque d.status 0 0 n d.done.cas))
        → ReplyWritten (keys_reply config (length out) b clock h d start count) out (24 + n) out₂
    listing-written n out₁ out₂ f roomy en e₁ e₂ =
        let body : Bodied d.done.reply start keys n out out₁ = (en ∙ ap length body_is, e₁ ∙ ap (written out 24) body_is) in
        let fits = keys-short config (length out) b clock start count in
        let p = replied h.opcode h.opaque d start keys out out₁ out₂ n _ f (omega (arith, en, fits)) body (header_is n en) e₂ in
        record { size = p.0; bytes = p.1 }

-- a reply by its variant
module _ (config : Config) (b : List ℕ) (clock : ℕ) (h : Header) (d : Decision) (key old out : List ℕ) where
  abbrev wrote : Reply → ℕ → List ℕ → Type 0
  wrote r n out' = ReplyWritten (reply_as r config (length out) b clock h d key old) out n out'

  pub listed : (count n : ℕ) (out' : List ℕ) → d.done.reply ≡ Keys count → ReplyWritten (keys_reply config (length out) b clock h d key count) out n out'
      → ReplyWritten (reply_to config (length out) b clock h d key old) out n out'
  listed count n out' e w = subst (λ (r : Reply). wrote r n out') (sym e) w

  -- every reply but a listing
  fitted : (r : Reply) → ((n : ℕ) → r ≡ Keys n → ⊥)
      → fitting_reply (length out) h.opcode h.opaque d key old ≡ reply_as r config (length out) b clock h d key old
  fitted Bare e = refl
  fitted (Found flags keyed) e = refl
  fitted (Counted n) e = refl
  fitted VersionReply e = refl
  fitted (Keys n) e = absurd (e n refl)

  pub unlisted : (n : ℕ) (out' : List ℕ) → ((m : ℕ) → d.done.reply ≡ Keys m → ⊥)
      → n ≡ length (fitting_reply (length out) h.opcode h.opaque d key old) → out' ≡ written out 0 (fitting_reply (length out) h.opcode h.opaque d key old)
      → ReplyWritten (reply_to config (length out) b clock h d key old) out n out'
  unlisted n out' other en eout =
      let e = fitted d.done.reply other in
      record { size = en ∙ ap length e; bytes = eout ∙ ap (written out 0) e }
