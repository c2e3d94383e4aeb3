-- For the code alone: a decision's reply, from any memory, and what writing it answers and leaves.
use Rattle.std.specs.Prelude.{ℕ, ◌≡◌, List, length}
use Rattle.octets.specs.Parts.{written}
use Rattle.engine.specs.declared.Config.{Config}
use Rattle.header.specs.declared.Header.{Header}
use Rattle.document.specs.Documents.{Key}
use Rattle.effects.specs.declared.Reply.{Reply}
use Rattle.effects.specs.declared.Reply.TheVariants.{Bare, Found, Counted, Version as VersionReply, Keys}
use Rattle.decision.specs.Decision.{Decision}
use Rattle.table.specs.Calls.{keys_for}
use Rattle.serving.specs.Reply.{reply_bytes}
use Rattle.reply.specs.Fitting.{fitting_reply}

-- the reply that lists keys of a table's memory
abbrev pub keys_reply : Config → ℕ → List ℕ → ℕ → Header → Decision → Key → ℕ → List ℕ
keys_reply config room b clock h d start count = reply_bytes h.opcode h.opaque d start (keys_for config room b clock start count)

-- the reply to a request for a key; old: the value found for it
abbrev pub reply_as : Reply → Config → ℕ → List ℕ → ℕ → Header → Decision → Key → List ℕ → List ℕ
reply_as Bare config room b clock h d key old = fitting_reply room h.opcode h.opaque d key old
reply_as (Found flags keyed) config room b clock h d key old = fitting_reply room h.opcode h.opaque d key old
reply_as (Counted n) config room b clock h d key old = fitting_reply room h.opcode h.opaque d key old
reply_as VersionReply config room b clock h d key old = fitting_reply room h.opcode h.opaque d key old
reply_as (Keys count) config room b clock h d key old = keys_reply config room b clock h d key count

abbrev pub reply_to : Config → ℕ → List ℕ → ℕ → Header → Decision → Key → List ℕ → List ℕ
reply_to config room b clock h d key old = reply_as d.done.reply config room b clock h d key old

pub record ReplyWritten (reply out : List ℕ) (n : ℕ) (out' : List ℕ) : Type 0 where
  pub size : n ≡ length reply
  pub bytes : out' ≡ written out 0 reply
