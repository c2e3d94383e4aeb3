use mathlib.Core.Path.{◌∙◌}
use Rattle.document.specs.Stored.{entry_of}
use Rattle.row_writer.proofs.Writes.{update-over}
use Rattle.row_writer.proofs.put_entry.Goals as goal

pub returns : goal.returns
returns c =
    let a = c.args in
    c.put_document.ensures ∙ update-over a.row.now _ (entry_of a.key.now a.m a.value.now) a.old c.requires.0 c.requires.1 c.put_bytes.ensures
