-- A reply's bytes: document 000's header with magic 0x81 and the status in place of the vbucket, then extras, key and value as 01 has them for each command.
use Rattle.std.specs.Prelude.{ℕ, cond, List, [], ◌++◌, length}
use Rattle.numbers.specs.declared.Cas.{Cas}
use Rattle.header.specs.declared.Header.{Header}
use Rattle.header.specs.Header.{header_bytes}
use Rattle.document.specs.Documents.{Key, doc_value}
use Rattle.listing.specs.Listing.{listing}
use Rattle.rows.specs.Row.{Row}
use Rattle.rows.specs.Find.{find_row}
use Rattle.plain.specs.Plain.{used_rows}
use Rattle.effects.specs.declared.Reply.{Reply}
use Rattle.effects.specs.declared.Reply.TheVariants.{Bare, Found, Counted, Version as VersionReply, Keys}
use Rattle.decision.specs.Decision.{Decision}
use Rattle.decision.specs.Decide.{reply_extras, reply_key, reply_value}

-- what a table shows a reply: the keys listed, or the value stored for the request's key
abbrev pub reply_shows : Reply → List Row → ℕ → Key → List ℕ
reply_shows Bare rows clock key = doc_value (find_row rows key)
reply_shows (Found flags keyed) rows clock key = doc_value (find_row rows key)
reply_shows (Counted n) rows clock key = doc_value (find_row rows key)
reply_shows VersionReply rows clock key = doc_value (find_row rows key)
reply_shows (Keys count) rows clock key = listing (used_rows rows) clock key count

-- extras, key and value in a row, for a request's key and what the table shows
abbrev pub body_of : Reply → List ℕ → List ℕ → List ℕ
body_of r key shown = reply_extras r ++ (reply_key r key ++ reply_value r shown)

-- a reply's header from its numbers: opcode and opaque echoed, the status in place of the vbucket
abbrev pub header_with : ℕ → ℕ → ℕ → ℕ → ℕ → ℕ → Cas → Header
header_with op opaque status keylen extlen body cas = record {
  magic = 0x81;
  opcode = op;
  keylen = keylen;
  extlen = extlen;
  datatype = 0;
  vbucket = status;
  body = body;
  opaque = opaque;
  cas = cas;
}

unfoldable pub reply_header : ℕ → ℕ → Decision → List ℕ → List ℕ → Header
reply_header op opaque x key shown =
    header_with op opaque x.status (length (reply_key x.done.reply key)) (length (reply_extras x.done.reply))
    (length (body_of x.done.reply key shown)) x.done.cas

-- no bytes where the frame is silent
unfoldable pub reply_bytes : ℕ → ℕ → Decision → List ℕ → List ℕ → List ℕ
unfolding reply_header
reply_bytes op opaque x key shown = cond x.silent [] (header_bytes (reply_header op opaque x key shown) ++ body_of x.done.reply key shown)
